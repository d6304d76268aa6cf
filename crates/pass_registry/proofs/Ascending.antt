-- Entries that ascend by their keys: where a binary search leads, and what is put in or taken out there.
use Rattle.std.proofs.Common.{◌≡◌, ℕ, zero, suc, ◌<◌, ◌≤◌, true, not, cond, List, [], ◌∷◌, length, get_or, filter, refl, ap, sym, ◌∙◌, arith}
use Rattle.std.specs.Prelude.{Some, None}
use Rattle.std.specs.List.{AllWithin, insert, remove}
use Rattle.std.specs.List.Sorted.{IsNonDecreasingBy}
use Rattle.std.specs.Ordering.{eq_by_cmp, is_lt, is_eq, ordering_index, ordering_reverse}
use Rattle.std.specs.declared.cmp.Ordering.{Ordering}
use Rattle.std.specs.declared.cmp.Ordering.TheVariants.{Less, Equal, Greater}
use Rattle.std.specs.Cmp.{IsTotalOrder}
use Rattle.std.specs.FinMap.Entries.{find, put, is_sorted, below_all, by_order}
use Rattle.pass_plain.proofs.Lists.{true_left, true_right}

is_less : (r : Ordering) → is_lt r ≡ true → r ≡ Less
is_less Less e = refl
is_less Equal e = absurd (cc)
is_less Greater e = absurd (cc)

index_small : (r : Ordering) → ordering_index r ≤ 2
index_small Less = omega arith
index_small Equal = omega arith
index_small Greater = omega arith

module _ {K : Type 0} (R : K → K → Ordering) (o : IsTotalOrder R) where
  turned : (x y : K) (r : Ordering) → R x y ≡ r → R y x ≡ ordering_reverse r
  turned x y r e = o.antisymm y x ∙ ap ordering_reverse e

  -- what is below something equal is below
  below_equal : (x y key : K) → R x y ≡ Less → R y key ≡ Equal → R x key ≡ Less
  below_equal x y key less equal =
      turned key x Greater (sym (o.congr y key x equal) ∙ turned x y Less less)

  step : (x y key : K) → R x y ≡ Less → (r : Ordering) → R y key ≡ r → ordering_index (R x key) ≤ ordering_index r
  step x y key less Less e = rw (o.trans x y key less e) (omega arith)
  step x y key less Equal e = rw (below_equal x y key less e) (omega arith)
  step x y key less Greater e = index_small (R x key)

module _ {K X : Type 0} (R : K → K → Ordering) (o : IsTotalOrder R) where
  below_at : (x : K) (es : List (K × X)) → below_all R x es ≡ true → (j : ℕ) (d : K × X) → j < length es → R x (get_or es j d).0 ≡ Less
  below_at x [] below j d within = absurd (omega arith)
  below_at x (e ∷ es) below zero d within = is_less _ (true_left _ _ below)
  below_at x (e ∷ es) below (suc j) d within = below_at x es (true_right _ _ below) j d (omega arith)

  -- the answers of a search rise along ascending entries
  pub rising : (key : K) (es : List (K × X)) → is_sorted R es ≡ true → IsNonDecreasingBy (λ e. ordering_index (R e.0 key)) es
  rising key [] sorted i j d le within = absurd (omega arith)
  rising key (e ∷ es) sorted zero zero d le within = omega arith
  rising key (e ∷ es) sorted zero (suc j) d le within =
      step R o e.0 (get_or es j d).0 key (below_at e.0 es (true_left _ _ sorted) j d (omega arith)) _ refl
  rising key (e ∷ es) sorted (suc i) zero d le within = absurd (omega arith)
  rising key (e ∷ es) sorted (suc i) (suc j) d le within = rising key es (true_right _ _ sorted) i j d (omega arith) (omega arith)

  -- the entry at a place where the key ties is the one that is found
  pub found_at : (key : K) (es : List (K × X)) → is_sorted R es ≡ true → (i : ℕ) (d : K × X) → i < length es → R (get_or es i d).0 key ≡ Equal
      → find R key es ≡ Some (get_or es i d).1
  found_at key [] sorted i d within equal = absurd (omega arith)
  found_at key (e ∷ es) sorted zero d within equal = ap (λ r. cond (is_eq r) (Some e.1) (find R key es)) (turned R o e.0 key Equal equal)
  found_at key (e ∷ es) sorted (suc i) d within equal =
      let less = below_equal R o e.0 (get_or es i d).0 key (below_at e.0 es (true_left _ _ sorted) i d (omega arith)) equal in
      ap (λ r. cond (is_eq r) (Some e.1) (find R key es)) (turned R o e.0 key Less less) ∙ found_at key es (true_right _ _ sorted) i d (omega arith) equal

  abbrev pub IsBetween : K → List (K × X) → ℕ → Type 0
  IsBetween key es i = AllWithin (λ e. R e.0 key ≡ Less) es 0 i × AllWithin (λ e. R e.0 key ≡ Greater) es i (length es)

  later : (key : K) (e : K × X) (es : List (K × X)) (i : ℕ) → IsBetween key (e ∷ es) (suc i) → IsBetween key es i
  later key e es i (below, above) = (λ k d low high. below (suc k) d (omega arith) (omega arith), λ k d low high. above (suc k) d (omega arith) (omega arith))

  later_above : (key : K) (e : K × X) (es : List (K × X)) → IsBetween key (e ∷ es) zero → IsBetween key es zero
  later_above key e es (below, above) = (λ k d low high. absurd (omega arith), λ k d low high. above (suc k) d (omega arith) (omega arith))

  -- a key that has its place between the entries isn't found
  pub missing : (key : K) (es : List (K × X)) (i : ℕ) → IsBetween key es i → find R key es ≡ None
  missing key [] i between = refl
  missing key (e ∷ es) zero between =
      ap (λ r. cond (is_eq r) (Some e.1) (find R key es)) (turned R o e.0 key Greater (between.1 0 e (omega arith) (omega arith)))
      ∙ missing key es zero (later_above key e es between)
  missing key (e ∷ es) (suc i) between =
      ap (λ r. cond (is_eq r) (Some e.1) (find R key es)) (turned R o e.0 key Less (between.0 0 e (omega arith) (omega arith)))
      ∙ missing key es i (later key e es i between)

  -- and is put in at its place
  pub put_at : (key : K) (v : X) (es : List (K × X)) (i : ℕ) → i ≤ length es → IsBetween key es i → put R key v es ≡ insert es i (key, v)
  put_at key v [] zero le between = refl
  put_at key v [] (suc i) le between = absurd (omega arith)
  put_at key v (e ∷ es) zero le between =
      ap (λ r. by_order r ((key, v) ∷ e ∷ es) ((e.0, v) ∷ es) (e ∷ put R key v es)) (turned R o e.0 key Greater (between.1 0 e (omega arith) (omega arith)))
  put_at key v (e ∷ es) (suc i) le between =
      ap (λ r. by_order r ((key, v) ∷ e ∷ es) ((e.0, v) ∷ es) (e ∷ put R key v es)) (turned R o e.0 key Less (between.0 0 e (omega arith) (omega arith)))
      ∙ ap (λ rest. e ∷ rest) (put_at key v es i (omega arith) (later key e es i between))

  -- the entries but for those that tie with the key
  abbrev pub others : K → List (K × X) → List (K × X)
  others key es = filter (λ (e : K × X). not (eq_by_cmp R key e.0)) es

  -- a key that has its place between the entries leaves them all
  pub all_stay : (key : K) (es : List (K × X)) (i : ℕ) → IsBetween key es i → others key es ≡ es
  all_stay key [] i between = refl
  all_stay key (e ∷ es) zero between =
      ap (λ r. cond (not (is_eq r)) (e ∷ others key es) (others key es)) (turned R o e.0 key Greater (between.1 0 e (omega arith) (omega arith)))
      ∙ ap (λ rest. e ∷ rest) (all_stay key es zero (later_above key e es between))
  all_stay key (e ∷ es) (suc i) between =
      ap (λ r. cond (not (is_eq r)) (e ∷ others key es) (others key es)) (turned R o e.0 key Less (between.0 0 e (omega arith) (omega arith)))
      ∙ ap (λ rest. e ∷ rest) (all_stay key es i (later key e es i between))

  above_all : (key : K) (e : K × X) (es : List (K × X)) → below_all R e.0 es ≡ true → R e.0 key ≡ Equal → IsBetween key es zero
  above_all key e es below equal = (
    λ k d low high. absurd (omega arith),
    λ k d low high. turned R o key (get_or es k d).0 Less (sym (o.congr e.0 key (get_or es k d).0 equal) ∙ below_at e.0 es below k d high),
  )

  -- where the key ties with an entry, that one goes
  pub out_at : (key : K) (es : List (K × X)) → is_sorted R es ≡ true → (i : ℕ) (d : K × X) → i < length es → R (get_or es i d).0 key ≡ Equal
      → others key es ≡ remove es i
  out_at key [] sorted i d within equal = absurd (omega arith)
  out_at key (e ∷ es) sorted zero d within equal =
      ap (λ r. cond (not (is_eq r)) (e ∷ others key es) (others key es)) (turned R o e.0 key Equal equal)
      ∙ all_stay key es zero (above_all key e es (true_left _ _ sorted) equal)
  out_at key (e ∷ es) sorted (suc i) d within equal =
      let less = below_equal R o e.0 (get_or es i d).0 key (below_at e.0 es (true_left _ _ sorted) i d (omega arith)) equal in
      ap (λ r. cond (not (is_eq r)) (e ∷ others key es) (others key es)) (turned R o e.0 key Less less)
      ∙ ap (λ rest. e ∷ rest) (out_at key es (true_right _ _ sorted) i d (omega arith) equal)
