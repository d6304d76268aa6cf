-- The digests of an act are those of what it touches.
use Rattle.std.proofs.Common.{◌≡◌, ◌∙◌, ℕ, zero, suc, ◌+◌, ◌-◌, ◌<◌, ◌≤◌, ◌==◌, ◌&&◌, ◌||◌, Bool, true, false, cond, List, [], ◌∷◌, ◌++◌, length, map, refl, ap, arith}
use Rattle.std.specs.Prelude.{nat_lt, nat_le, filter, Option, Some, None, IfSome}
use Rattle.std.specs.List.{range_with_len}
use Rattle.std.specs.Option.{option_map_or}
use Rattle.std.proofs.lemmas.List.Elements.{filter-append}
use Rattle.std.proofs.lemmas.List.{map-append, append-nil}
use Rattle.std.proofs.lemmas.Bool.{le-leb, lt-ltb, le-ltb, lt-leb}
use Rattle.pass_entry.specs.declared.entry.Act.{Act}
use Rattle.pass_entry.proofs.Lists.{or_true, and_none, alike, different}
use Rattle.pass_plain.specs.Records.{digest_of}
use Rattle.pass_plain.specs.Recording.{digests_by, is_digested_by}
use Rattle.pass_file.specs.declared.touched.Touched.{Touched}
use Rattle.pass_file.specs.Touches.{is_at, is_within, is_touched, digests_at}

range_split : (a m n : ℕ) → range_with_len a (m + n) ≡ range_with_len a m ++ range_with_len (a + m) n
range_split a zero n = (λ i. range_with_len (w i) (z i))
  where
    w : a ≡ a + 0
    w = omega arith

    z : 0 + n ≡ n
    z = omega arith
range_split a (suc m) n =
    ap (λ k. range_with_len a k) (let z : suc m + n ≡ suc (m + n) = omega arith in z)
    ∙ ap (λ xs. a ∷ xs) (range_split (a + 1) m n)
    ∙ ap (λ k. a ∷ (range_with_len (a + 1) m ++ range_with_len k n)) (let z : a + 1 + m ≡ a + suc m = omega arith in z)

-- a list that goes on as another one begins
split_at : (a b c : ℕ) → a ≤ b → b ≤ c → range_with_len a (c - a) ≡ range_with_len a (b - a) ++ range_with_len b (c - b)
split_at a b c low high =
    ap (λ n. range_with_len a n) (let z : c - a ≡ b - a + (c - b) = omega (arith, low, high) in z) ∙ range_split a (b - a) (c - b)
    ∙ ap (λ k. range_with_len a (b - a) ++ range_with_len k (c - b)) (let z : a + (b - a) ≡ b = omega (arith, low) in z)

filter_none : (p : ℕ → Bool) (a n : ℕ) → ((k : ℕ) → a ≤ k → k < a + n → p k ≡ false) → filter p (range_with_len a n) ≡ []
filter_none p a zero away = refl
filter_none p a (suc n) away =
    ap (λ t. cond t (a ∷ filter p (range_with_len (a + 1) n)) (filter p (range_with_len (a + 1) n))) (away a (omega arith) (omega arith))
    ∙ filter_none p (a + 1) n (λ k low high. away k (omega (arith, low)) (omega (arith, high)))

filter_all : (p : ℕ → Bool) (a n : ℕ) → ((k : ℕ) → a ≤ k → k < a + n → p k ≡ true) → filter p (range_with_len a n) ≡ range_with_len a n
filter_all p a zero each = refl
filter_all p a (suc n) each =
    ap (λ t. cond t (a ∷ filter p (range_with_len (a + 1) n)) (filter p (range_with_len (a + 1) n))) (each a (omega arith) (omega arith))
    ∙ ap (λ xs. a ∷ xs) (filter_all p (a + 1) n (λ k low high. each k (omega (arith, low)) (omega (arith, high))))

filter_same : (p q : ℕ → Bool) (a n : ℕ) → ((k : ℕ) → a ≤ k → k < a + n → p k ≡ q k) → filter p (range_with_len a n) ≡ filter q (range_with_len a n)
filter_same p q a zero same = refl
filter_same p q a (suc n) same =
    (λ i.
    cond (same a (omega arith) (omega arith) i)
    (a ∷ filter_same p q (a + 1) n (λ k low high. same k (omega (arith, low)) (omega (arith, high))) i)
    (filter_same p q (a + 1) n (λ k low high. same k (omega (arith, low)) (omega (arith, high))) i))

abbrev at_edge : Option ℕ → List ℕ
at_edge None = []
at_edge (Some e) = e ∷ []

module _ (first end_ count : ℕ) (order : first ≤ end_) (most : end_ ≤ count) where
  front : (edge : Option ℕ) → IfSome edge (λ e. e < first) → filter (λ b. is_at edge b || is_within first end_ b) (range_with_len 0 (first - 0)) ≡ at_edge edge
  front None below =
      filter_none (λ b. is_within first end_ b) 0 (first - 0)
      (λ k low high. ap (λ t. t && nat_lt k end_) (lt-leb first k (omega (arith, high))))
  front (Some e) below =
      let p : ℕ → Bool = λ b. (e == b) || is_within first end_ b in
      let gone : (k : ℕ) → k < first → (e == k) ≡ false → p k ≡ false = λ k high other. (λ i. other i || (lt-leb first k high i && nat_lt k end_)) in
      ap (filter p) (split_at 0 e first (omega arith) (omega (arith, below)))
      ∙ filter-append p (range_with_len 0 (e - 0)) (range_with_len e (first - e))
      ∙ ap (λ xs. xs ++ filter p (range_with_len e (first - e))) (filter_none p 0 (e - 0) (λ k low high. gone k (omega (arith, high, below)) (different e k (omega (arith, high)))))
      ∙ ap (λ n. filter p (range_with_len e n)) (let z : first - e ≡ suc (first - e - 1) = omega (arith, below) in z)
      ∙ ap (λ t. cond t (e ∷ filter p (range_with_len (e + 1) (first - e - 1))) (filter p (range_with_len (e + 1) (first - e - 1)))) (ap (λ t. t || is_within first end_ e) (alike e e refl))
      ∙ ap (λ xs. e ∷ xs) (filter_none p (e + 1) (first - e - 1) (λ k low high. gone k (omega (arith, high, below)) (different e k (omega (arith, low)))))

  touched : (edge : Option ℕ) → IfSome edge (λ e. e < first) → filter (λ b. is_at edge b || is_within first end_ b) (range_with_len 0 count) ≡ at_edge edge ++ range_with_len first (end_ - first)
  touched edge below =
      let p : ℕ → Bool = λ b. is_at edge b || is_within first end_ b in
      let all : range_with_len 0 count ≡ range_with_len 0 (first - 0) ++ (range_with_len first (end_ - first) ++ range_with_len end_ (count - end_)) =
      ap (λ n. range_with_len 0 n) (let z : count ≡ count - 0 = omega arith in z) ∙ split_at 0 first count (omega arith) (omega (arith, order, most))
      ∙ ap (λ xs. range_with_len 0 (first - 0) ++ xs) (split_at first end_ count order most) in
      ap (filter p) all
      ∙ filter-append p (range_with_len 0 (first - 0)) (range_with_len first (end_ - first) ++ range_with_len end_ (count - end_))
      ∙ (λ i. front edge below i ++ filter-append p (range_with_len first (end_ - first)) (range_with_len end_ (count - end_)) i)
      ∙ (λ i.
      at_edge edge
      ++ (filter_all p first (end_ - first) (λ k low high. (λ j. is_at edge k || (le-leb first k low j && lt-ltb k end_ (omega (arith, high, low)) j)) ∙ or_true (is_at edge k)) i
      ++ filter_none p end_ (count - end_) (λ k low high. (λ j. away edge below k (omega (arith, low, order)) j || (nat_le first k && le-ltb k end_ low j)) ∙ and_none (nat_le first k)) i))
      ∙ ap (λ xs. at_edge edge ++ xs) (append-nil (range_with_len first (end_ - first)))
    where
      away : (edge : Option ℕ) → IfSome edge (λ e. e < first) → (k : ℕ) → first ≤ k → is_at edge k ≡ false
      away None below k low = refl
      away (Some e) below k low = different e k (omega (arith, below, low))

pub digests_touched : (file old : ℕ) (new : List ℕ) (had : ℕ → Bool) (a : Act) (count : ℕ) (t : Touched) → ((b : ℕ) → b < count → is_digested_by old (length new) (had b) a b ≡ is_touched t b)
    → t.first ≤ t.end → t.end ≤ count → IfSome t.edge (λ e. e < t.first) → digests_by file old new had a count ≡ digests_at file new t
digests_touched file old new had a count t same order most ordered =
    ap (map (digest_of file new))
    (filter_same (λ b. is_digested_by old (length new) (had b) a b) (is_touched t) 0 count (λ k low high. same k (omega (arith, high))) ∙ touched t.first t.end count order most t.edge ordered)
    ∙ map-append (digest_of file new) (at_edge t.edge) (range_with_len t.first (t.end - t.first))
    ∙ ap (λ rs. rs ++ map (digest_of file new) (range_with_len t.first (t.end - t.first))) (one t.edge)
  where
    one : (edge : Option ℕ) → map (digest_of file new) (at_edge edge) ≡ option_map_or (λ e. digest_of file new e ∷ []) edge []
    one None = refl
    one (Some e) = refl
