use Rattle.std.proofs.Common.{◌≡◌, ◌-◌, ◌≤◌, ◌++◌, ◌∷◌, [], ℕ, List, map, length, get_or, take, drop, ap, ◌∙◌, append-nil, arith, Bor}
use Rattle.std.specs.List.{flat_map, join_with_byte}
use Rattle.std.proofs.lemmas.Grind.{common_steps}
use Rattle.pass_trace.proofs.line.joined.Goals as goal

join_with_byte-spaced : {X : Type 0} (f : X → List ℕ) (x : X) (xs : List X) → f x ++ flat_map (λ w. 32 ∷ f w) xs ≡ join_with_byte 32 (map f (x ∷ xs))
join_with_byte-spaced f x [] = append-nil (f x)
join_with_byte-spaced f x (y ∷ xs) = ap (λ t. f x ++ 32 ∷ t) (join_with_byte-spaced f y xs)

take_behind : {X : Type 0} (x : X) (xs : List X) → take (length (x ∷ xs) - 1) (drop 1 (x ∷ xs)) ≡ xs
take_behind x xs = grind (arith, common_steps)

join_with_byte-parts : (f : Bor (List ℕ) → List ℕ) (words : List (Bor (List ℕ))) (d : Bor (List ℕ)) → 1 ≤ length words → f (get_or words 0 d) ++ flat_map (λ w. 32 ∷ f w) (take (length words - 1) (drop 1 words)) ≡ join_with_byte 32 (map f words)
join_with_byte-parts f [] d h = absurd (omega arith)
join_with_byte-parts f (x ∷ xs) d h =
    ap (λ ws. f x ++ flat_map (λ w. 32 ∷ f w) ws) (take_behind x xs) ∙ join_with_byte-spaced f x xs

pub returns : goal.returns
returns c =
    let all = c.in_ok-push_words.ensures in
    let first = c.in_ok-extend_from_slice.ensures.items in
    let empty = c.new-bytes.ensures.items in
    all ∙ ap (λ t. t ++ flat_map (λ w. 32 ∷ w.now) (take (length c.args.words.now - 1) (drop 1 c.args.words.now))) (first ∙ ap (λ t. t ++ (get_or c.args.words.now 0 record { ref_ptr = (0, 0); now = [] }).now) empty)
    ∙ join_with_byte-parts (λ w. w.now) c.args.words.now (record { ref_ptr = (0, 0); now = [] }) c.in-len1-up.len_at_least
