-- What a block has after an act on its file, by what the block had.
use Rattle.std.proofs.Common.{◌≡◌, ◌∙◌, ℕ, zero, suc, ◌+◌, ◌-◌, ◌<◌, ◌≤◌, ◌⊎◌, inl, inr, ⊎_elim, min, List, [], ◌∷◌, ◌++◌, length, take, drop, replicate, refl, ap, sym, arith}
use Rattle.std.proofs.lemmas.List.{length-append, length-take, length-take-le, length-drop, length-replicate, take-take, take_all, drop-drop, take-replicate, drop-replicate}
use Rattle.pass_plain.specs.Files.{extended, written, resized}
use Rattle.pass_plain.proofs.Replays.{le_or_ge}
use Rattle.pass_entry.proofs.Places.{take_append, drop_append}

take_none : {X : Type 0} (n : ℕ) → take {A = X} n [] ≡ []
take_none zero = refl
take_none (suc n) = refl

drop_taken : {X : Type 0} (a b : ℕ) (xs : List X) → drop a (take b xs) ≡ take (b - a) (drop a xs)
drop_taken zero b xs = ap (λ k. take k xs) (let z : b ≡ b - 0 = omega arith in z)
drop_taken (suc a) zero xs = ap (λ k. take k (drop (suc a) xs)) (let z : 0 ≡ 0 - suc a = omega arith in z)
drop_taken (suc a) (suc b) [] = sym (take_none (suc b - suc a))
drop_taken (suc a) (suc b) (x ∷ xs) = drop_taken a b xs ∙ ap (λ k. take k (drop a xs)) (let z : b - a ≡ suc b - suc a = omega arith in z)

take_both : {X : Type 0} (n m f : ℕ) (xs : List X) → f ≡ min n m → take n (take m xs) ≡ take f xs
take_both n m f xs is = ⊎_elim
    (λ (le : n ≤ m). take-take n m xs le ∙ ap (λ k. take k xs) (let z : n ≡ f = omega (arith, is, le) in z))
    (λ (ge : m ≤ n). take_all n (take m xs) (let l = length-take m xs in omega (arith, l, ge)) ∙ ap (λ k. take k xs) (let z : m ≡ f = omega (arith, is, ge) in z))
    (le_or_ge n m)

-- the front of a file that gets a size, in a block of so many bytes at a place
pub part_resized : (old : List ℕ) (size at count len : ℕ) → len ≡ min count (size - at)
    → take count (drop at (resized old size)) ≡ take len (take count (drop at old)) ++ replicate (len - length (take count (drop at old))) 0
part_resized old size at count len is =
    let rest = drop at old in
    let more = length-drop at old in
    let own = length-take count rest in
    let gap : List ℕ = replicate (size - length old) 0 in
    let front : take len rest ≡ take len (take count rest) = sym (take-take len count rest (omega (arith, is))) in
    let behind : take (len - length rest) (drop (at - length old) gap) ≡ replicate (len - length (take count rest)) 0 =
    ap (take (len - length rest)) (drop-replicate (at - length old) (size - length old) 0)
    ∙ take-replicate (len - length rest) (size - length old - (at - length old)) 0 (omega (arith, is, more))
    ∙ ap (λ n. replicate n 0) (let z : len - length rest ≡ len - length (take count rest) = omega (arith, is, own) in z) in
    ap (take count) (drop_taken at size (old ++ gap))
    ∙ take_both count (size - at) len (drop at (old ++ gap)) is
    ∙ ap (take len) (drop_append at old gap)
    ∙ take_append len rest (drop (at - length old) gap)
    ∙ (λ i. front i ++ behind i)

same_part : (old : List ℕ) (i j m n : ℕ) → m ≡ n → ((m ≡ 0) ⊎ (i ≡ j)) → take m (drop i old) ≡ take n (drop j old)
same_part old i j m n same either = ap (λ k. take k (drop i old)) same
    ∙ ⊎_elim (λ (none : m ≡ 0). ap (λ k. take k (drop i old)) (sym same ∙ none) ∙ ap (λ k. take k (drop j old)) (sym none ∙ same))
    (λ (at : i ≡ j). ap (λ k. take n (drop k old)) at) either

-- a block of so many bytes at a place, after a write to its file
pub part_written : (old bytes : List ℕ) (at place count from : ℕ) (piece : List ℕ) → 0 < length bytes → from ≡ min count (at - place) → piece ≡ take (count - from) (drop (place - at) bytes)
    → take count (drop place (written old at bytes))
    ≡ take from (take count (drop place old)) ++ replicate (from - length (take count (drop place old))) 0 ++ piece ++ drop (from + length piece) (take count (drop place old))
part_written old [] at place count from piece some from_is piece_is = absurd (omega (arith, some))
part_written old (b ∷ rest) at place count from piece some from_is piece_is =
    let bytes = b ∷ rest in
    let head = resized old at in
    let tail = drop (at + length bytes) old in
    let own = take count (drop place old) in
    let heads : length head ≡ at =
    let a = length-append old (replicate (at - length old) 0) in
    let r = length-replicate {A = ℕ} (at - length old) 0 in
    length-take-le at (extended old at) (omega (arith, a, r)) in
    let left = length-drop place head in
    let both = length-append head bytes in
    let most = length-drop place (head ++ bytes) in
    let skipped = length-drop (place - at) bytes in
    let size = ap length piece_is ∙ length-take (count - from) (drop (place - at) bytes) in
    let front : take count (drop place (head ++ bytes)) ≡ take from own ++ replicate (from - length own) 0 ++ piece =
    ap (take count) (drop_append place head bytes) ∙ take_append count (drop place head) (drop (place - length head) bytes)
    ∙ (λ i. part_resized old at place count from from_is i
    ++ take ((let z : count - length (drop place head) ≡ count - from = omega (arith, left, heads, from_is) in z) i) (drop (place - heads i) bytes))
    ∙ ap (λ p. take from own ++ replicate (from - length own) 0 ++ p) (sym piece_is) in
    let behind : take (count - length (drop place (head ++ bytes))) (drop (place - length (head ++ bytes)) tail) ≡ drop (from + length piece) own =
    ap (take (count - length (drop place (head ++ bytes)))) (drop-drop (place - length (head ++ bytes)) (at + length bytes) old)
    ∙ same_part old (at + length bytes + (place - length (head ++ bytes))) (place + (from + length piece)) (count - length (drop place (head ++ bytes))) (count - (from + length piece))
    (omega (arith, most, both, heads, from_is, size, skipped))
    (⊎_elim (λ (le : at + length bytes ≤ place + count). inr (omega (arith, le, both, heads, from_is, size, skipped, some)))
    (λ (ge : place + count ≤ at + length bytes). inl (omega (arith, ge, most, both, heads)))
    (le_or_ge (at + length bytes) (place + count)))
    ∙ ap (take (count - (from + length piece))) (sym (drop-drop (from + length piece) place old))
    ∙ sym (drop_taken (from + length piece) count (drop place old)) in
    ap (take count) (drop_append place (head ++ bytes) tail)
    ∙ take_append count (drop place (head ++ bytes)) (drop (place - length (head ++ bytes)) tail)
    ∙ (λ i. front i ++ behind i)

-- the first of what lies behind the first of a list
pub piece_is : (xs : List ℕ) (skip most first count : ℕ) → first ≡ min skip (length xs) → count ≡ min most (length xs - first) → take count (drop first xs) ≡ take most (drop skip xs)
piece_is xs skip most first count first_is count_is =
    let here = length-drop first xs in
    let there = length-drop skip xs in
    ⊎_elim
    (λ (le : skip ≤ length xs).
    ap (λ n. take count (drop n xs)) (let z : first ≡ skip = omega (arith, first_is, le) in z)
    ∙ ⊎_elim (λ (low : most ≤ length xs - skip). ap (λ n. take n (drop skip xs)) (let z : count ≡ most = omega (arith, low, count_is, first_is, le) in z))
    (λ (high : length xs - skip ≤ most). take_all count (drop skip xs) (omega (arith, there, count_is, first_is, le, high)) ∙ sym (take_all most (drop skip xs) (omega (arith, there, high))))
    (le_or_ge most (length xs - skip)))
    (λ (ge : length xs ≤ skip).
    none (take count (drop first xs)) (let l = length-take count (drop first xs) in omega (arith, l, here, first_is, ge))
    ∙ sym (none (take most (drop skip xs)) (let l = length-take most (drop skip xs) in omega (arith, l, there, ge))))
    (le_or_ge skip (length xs))
  where
    none : (ys : List ℕ) → length ys ≡ 0 → ys ≡ []
    none [] is = refl
    none (y ∷ ys) is = absurd (omega (arith, is))
