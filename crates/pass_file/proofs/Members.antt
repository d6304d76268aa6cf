-- Which blocks are in a rising list.
use Rattle.std.proofs.Common.{◌≡◌, ◌≢◌, ◌∙◌, ℕ, suc, ◌+◌, ◌-◌, ◌*◌, ◌<◌, ◌≤◌, ◌⊎◌, ⊎_elim, inl, inr, ◌==◌, ◌&&◌, ◌||◌, not, Bool, true, false, List, [], ◌∷◌, length, take, drop, get_or, refl, ap, sym, arith}
use Rattle.std.specs.Prelude.{nat_lt, nat_le, Result, Ok, Err, MatchResult}
use Rattle.std.specs.List.{insert, remove}
use Rattle.std.specs.List.Sorted.{IsBinarySearchResult}
use Rattle.std.specs.Ordering.{nat_cmp}
use Rattle.std.proofs.lemmas.List.{length-take, length-drop, take-append-drop, drop_more, get_or-take, get_or-drop}
use Rattle.std.proofs.lemmas.List.Edits.{length-insert, length-remove, get_or-insert_below, get_or-insert_at, get_or-insert_above, get_or-remove_below, get_or-remove_above}
use Rattle.std.proofs.lemmas.List.Folds.{list_any-append, list_any_at}
use Rattle.std.proofs.lemmas.List.Sorted.{searched}
use Rattle.std.proofs.lemmas.Bool.{le-leb, lt-ltb, le-ltb, lt-leb}
use Rattle.pass_entry.proofs.Lists.{same_numbers, below_is, not_below, below_or, or_none, and_none, and_true, alike, different}
use Rattle.pass_file.specs.BlockSets.{is_among, IsRising, IsPlace}

-- Tests

pub or_assoc : (a b c : Bool) → (a || (b || c)) ≡ ((a || b) || c)
or_assoc true b c = refl
or_assoc false b c = refl

or_swap : (a b c : Bool) → (a || (b || c)) ≡ (b || (a || c))
or_swap true true c = refl
or_swap true false c = refl
or_swap false b c = refl

-- Members

pub none_among : (xs : List ℕ) (b : ℕ) → ((k : ℕ) → k < length xs → get_or xs k 0 ≢ b) → is_among xs b ≡ false
none_among [] b away = refl
none_among (x ∷ xs) b away = (λ i. different x b (away 0 (omega arith)) i || none_among xs b (λ k low. away (suc k) (omega (arith, low))) i)

pub one_among : (xs : List ℕ) (k b : ℕ) → k < length xs → get_or xs k 0 ≡ b → is_among xs b ≡ true
one_among xs k b low is = list_any_at (λ x. x == b) xs k 0 low (alike (get_or xs k 0) b is)

split : (xs : List ℕ) (n b : ℕ) → is_among xs b ≡ (is_among (take n xs) b || is_among (drop n xs) b)
split xs n b = ap (λ ys. is_among ys b) (sym (take-append-drop n xs)) ∙ list_any-append (λ x. x == b) (take n xs) (drop n xs)

-- Places

mono : (xs : List ℕ) → IsRising xs → (i j : ℕ) → i ≤ j → j < length xs → get_or xs i 0 ≤ get_or xs j 0
mono xs rising i j le low = by (below_or i j)
  where
    by : (i < j) ⊎ ((j < i) ⊎ (i ≡ j)) → get_or xs i 0 ≤ get_or xs j 0
    by (inl less) = let z = rising i j less low in omega (arith, z)
    by (inr (inl more)) = absurd (omega (arith, more, le))
    by (inr (inr same)) = let z = ap (λ k. get_or xs k 0) same in omega (arith, z)

pub place_from : (xs : List ℕ) (x : ℕ) (r : Result ℕ ℕ) → IsBinarySearchResult (λ y. nat_cmp y x) xs r → IsRising xs → MatchResult r (IsPlace xs x) (IsPlace xs x)
place_from xs x r found rising = by r (searched xs x r found (mono xs rising))
  where
    by : (r : Result ℕ ℕ) → MatchResult r (λ i. (i < length xs) × (get_or xs i 0 ≡ x)) (λ i. (i ≤ length xs) × ((k : ℕ) → k < i → get_or xs k 0 < x) × ((k : ℕ) → i ≤ k → k < length xs → x < get_or xs k 0))
        → MatchResult r (IsPlace xs x) (IsPlace xs x)
    by (Ok i) at =
        let low = at.0 in
        let is = at.1 in
        record {
          within = omega (arith, low);
          below = λ k less. let z = rising k i less low in omega (arith, z, is);
          above = λ k more within. let z = mono xs rising i k more within in omega (arith, z, is);
        }
    by (Err i) at = record {
      within = at.0;
      below = at.1;
      above = λ k more within. let z = at.2 k more within in omega (arith, z);
    }

module _ (xs : List ℕ) (rising : IsRising xs) (b p : ℕ) (place : IsPlace xs b p) where
  -- the blocks from the place on are above the block, where it doesn't stand there
  pub strictly : (nat_lt p (length xs) && (get_or xs p 0 == b)) ≡ false → (k : ℕ) → p ≤ k → k < length xs → b < get_or xs k 0
  strictly away k more within =
      let here : get_or xs p 0 ≢ b = λ is. let t = (λ i. sym (lt-ltb p (length xs) (omega (arith, more, within))) i && sym (alike (get_or xs p 0) b is) i) ∙ away in absurd (cc) in
      let least = place.above p (omega arith) (omega (arith, more, within)) in
      let rises = mono xs rising p k more within in
      omega (arith, here, least, rises)

  pub among_by_place : is_among xs b ≡ (nat_lt p (length xs) && (get_or xs p 0 == b))
  among_by_place = by (nat_lt p (length xs) && (get_or xs p 0 == b)) refl
    where
      by : (t : Bool) → (nat_lt p (length xs) && (get_or xs p 0 == b)) ≡ t → is_among xs b ≡ (nat_lt p (length xs) && (get_or xs p 0 == b))
      by true e = one_among xs p b (in_front (nat_lt p (length xs)) (get_or xs p 0 == b) refl e) (same_numbers (get_or xs p 0) b (second (nat_lt p (length xs)) (get_or xs p 0 == b) e)) ∙ sym e
        where
          second : (s t : Bool) → (s && t) ≡ true → t ≡ true
          second true t e = e
          second false t e = absurd (cc)

          in_front : (s t : Bool) → nat_lt p (length xs) ≡ s → (s && t) ≡ true → p < length xs
          in_front true t is e = below_is p (length xs) is
          in_front false t is e = absurd (cc)
      by false e =
          none_among xs b
          (λ k low is.
          ⊎_elim (λ (less : k < p). let z = place.below k less in omega (arith, z, is))
          (λ (not_less : (p < k) ⊎ (k ≡ p)).
          let more : p ≤ k = ⊎_elim (λ (m : p < k). omega (arith, m)) (λ (m : k ≡ p). omega (arith, m)) not_less in
          let z = strictly e k more low in omega (arith, z, is))
          (below_or k p)) ∙ sym e

pub already : (xs : List ℕ) (y b : ℕ) → is_among xs y ≡ true → is_among xs b ≡ ((y == b) || is_among xs b)
already xs y b here = by (y == b) refl
  where
    by : (t : Bool) → (y == b) ≡ t → is_among xs b ≡ ((y == b) || is_among xs b)
    by true e = ap (is_among xs) (sym (same_numbers y b e)) ∙ here ∙ ap (λ t. t || is_among xs b) (sym e)
    by false e = ap (λ t. t || is_among xs b) (sym e)

pub absent : (xs : List ℕ) (y b : ℕ) → is_among xs y ≡ false → is_among xs b ≡ (is_among xs b && not (y == b))
absent xs y b gone = by (y == b) refl
  where
    by : (t : Bool) → (y == b) ≡ t → is_among xs b ≡ (is_among xs b && not (y == b))
    by true e = let none = ap (is_among xs) (sym (same_numbers y b e)) ∙ gone in none ∙ sym (ap (λ t. t && not (y == b)) none)
    by false e = sym (ap (λ t. is_among xs b && not t) e ∙ and_true (is_among xs b))

-- Edits

pub among_insert : (xs : List ℕ) (p y b : ℕ) → is_among (insert xs p y) b ≡ ((y == b) || is_among xs b)
among_insert xs p y b =
    list_any-append (λ x. x == b) (take p xs) (y ∷ drop p xs) ∙ or_swap (is_among (take p xs) b) (y == b) (is_among (drop p xs) b) ∙ ap (λ t. (y == b) || t) (sym (split xs p b))

module _ (xs : List ℕ) (rising : IsRising xs) where
  pub rising_insert : (p y : ℕ) → IsPlace xs y p → (nat_lt p (length xs) && (get_or xs p 0 == y)) ≡ false → IsRising (insert xs p y)
  rising_insert p y place away i j less low =
      let n = length-insert xs p y place.within in
      ⊎_elim
      (λ (below : j < p).
      let a = get_or-insert_below xs p y 0 i (omega (arith, less, below)) place.within in
      let b = get_or-insert_below xs p y 0 j below place.within in
      let within = place.within in
      let z = rising i j less (omega (arith, below, within)) in omega (arith, a, b, z))
      (λ (rest : (p < j) ⊎ (j ≡ p)).
      ⊎_elim
      (λ (above : p < j).
      let k : ℕ = j - 1 in
      let b = ap (λ m. get_or (insert xs p y) m 0) (let z : j ≡ k + 1 = omega (arith, above) in z) ∙ get_or-insert_above xs p y 0 k (omega (arith, above)) place.within in
      let within : k < length xs = omega (arith, above, low, n) in
      ⊎_elim
      (λ (before : i < p).
      let a = get_or-insert_below xs p y 0 i before place.within in
      let z = rising i k (omega (arith, before, above)) within in omega (arith, a, b, z))
      (λ (not_before : (p < i) ⊎ (i ≡ p)).
      ⊎_elim
      (λ (behind : p < i).
      let a = ap (λ m. get_or (insert xs p y) m 0) (let z : i ≡ i - 1 + 1 = omega (arith, behind) in z) ∙ get_or-insert_above xs p y 0 (i - 1) (omega (arith, behind)) place.within in
      let z = rising (i - 1) k (omega (arith, behind, less)) within in omega (arith, a, b, z))
      (λ (same : i ≡ p).
      let a = ap (λ m. get_or (insert xs p y) m 0) same ∙ get_or-insert_at xs p y 0 place.within in
      let z = strictly xs rising y p place away k (omega (arith, above)) within in omega (arith, a, b, z))
      not_before)
      (below_or i p))
      (λ (same : j ≡ p).
      let a = get_or-insert_below xs p y 0 i (omega (arith, less, same)) place.within in
      let b = ap (λ m. get_or (insert xs p y) m 0) same ∙ get_or-insert_at xs p y 0 place.within in
      let z = place.below i (omega (arith, less, same)) in omega (arith, a, b, z))
      rest)
      (below_or j p)

  pub among_remove : (p b : ℕ) → p < length xs → is_among (remove xs p) b ≡ (is_among xs b && not (get_or xs p 0 == b))
  among_remove p b low = by (get_or xs p 0 == b) refl
    where
      by : (t : Bool) → (get_or xs p 0 == b) ≡ t → is_among (remove xs p) b ≡ (is_among xs b && not (get_or xs p 0 == b))
      by true e =
          let here = same_numbers (get_or xs p 0) b e in
          none_among (remove xs p) b
          (λ k within is.
          let n = length-remove xs p low in
          ⊎_elim
          (λ (less : k < p). let a = get_or-remove_below xs p 0 k less low in let z = rising k p less low in omega (arith, a, z, here, is))
          (λ (not_less : (p < k) ⊎ (k ≡ p)).
          let more : p ≤ k = ⊎_elim (λ (m : p < k). omega (arith, m)) (λ (m : k ≡ p). omega (arith, m)) not_less in
          let a = get_or-remove_above xs p 0 k more low in
          let z = rising p (k + 1) (omega (arith, more)) (omega (arith, within, n)) in omega (arith, a, z, here, is))
          (below_or k p))
          ∙ sym (ap (λ t. is_among xs b && not t) e ∙ and_none (is_among xs b))
      by false e =
          let rest = ap (λ n. drop n xs) (let z : p + 1 ≡ suc p = omega arith in z) in
          list_any-append (λ x. x == b) (take p xs) (drop (suc p) xs)
          ∙ ap (λ t. is_among (take p xs) b || (t || is_among (drop (suc p) xs) b)) (sym e)
          ∙ ap (λ ys. is_among (take p xs) b || ((get_or xs p 0 == b) || is_among ys b)) (sym rest)
          ∙ ap (λ ys. is_among (take p xs) b || is_among ys b) (sym (drop_more xs p 0 low))
          ∙ sym (split xs p b)
          ∙ sym (ap (λ t. is_among xs b && not t) e ∙ and_true (is_among xs b))

  pub rising_remove : (p : ℕ) → p < length xs → IsRising (remove xs p)
  rising_remove p low i j less within =
      let n = length-remove xs p low in
      ⊎_elim
      (λ (below : j < p).
      let a = get_or-remove_below xs p 0 i (omega (arith, less, below)) low in
      let b = get_or-remove_below xs p 0 j below low in
      let z = rising i j less (omega (arith, below, low)) in omega (arith, a, b, z))
      (λ (rest : (p < j) ⊎ (j ≡ p)).
      let above : p ≤ j = ⊎_elim (λ (m : p < j). omega (arith, m)) (λ (m : j ≡ p). omega (arith, m)) rest in
      let b = get_or-remove_above xs p 0 j above low in
      ⊎_elim
      (λ (before : i < p).
      let a = get_or-remove_below xs p 0 i before low in
      let z = rising i (j + 1) (omega (arith, less)) (omega (arith, within, n)) in omega (arith, a, b, z))
      (λ (not_before : (p < i) ⊎ (i ≡ p)).
      let behind : p ≤ i = ⊎_elim (λ (m : p < i). omega (arith, m)) (λ (m : i ≡ p). omega (arith, m)) not_before in
      let a = get_or-remove_above xs p 0 i behind low in
      let z = rising (i + 1) (j + 1) (omega (arith, less)) (omega (arith, within, n)) in omega (arith, a, b, z))
      (below_or i p))
      (below_or j p)

  pub rising_take : (n : ℕ) → IsRising (take n xs)
  rising_take n i j less within =
      let size = length-take n xs in
      let a = get_or-take n xs i 0 (omega (arith, within, size, less)) in
      let b = get_or-take n xs j 0 (omega (arith, within, size)) in
      let z = rising i j less (omega (arith, within, size)) in omega (arith, a, b, z)

  pub among_cut : (p below size b : ℕ) → IsPlace xs below p → size ≤ below * 4096 → below * 4096 < size + 4096 → is_among (take p xs) b ≡ (is_among xs b && nat_lt (b * 4096) size)
  among_cut p below size b place covers least = by (nat_lt (b * 4096) size) refl
    where
      by : (t : Bool) → nat_lt (b * 4096) size ≡ t → is_among (take p xs) b ≡ (is_among xs b && nat_lt (b * 4096) size)
      by true e =
          let less = below_is (b * 4096) size e in
          sym
          (ap (λ t. is_among xs b && t) e ∙ and_true (is_among xs b) ∙ split xs p b
          ∙ ap (λ t. is_among (take p xs) b || t)
          (none_among (drop p xs) b
          (λ k within is.
          let a = get_or-drop p xs k 0 in
          let n = length-drop p xs in
          let z = place.above (p + k) (omega arith) (omega (arith, within, n)) in omega (arith, a, z, is, less, covers)))
          ∙ or_none (is_among (take p xs) b))
      by false e =
          let more = not_below (b * 4096) size e in
          none_among (take p xs) b
          (λ k within is.
          let n = length-take p xs in
          let a = get_or-take p xs k 0 (omega (arith, within, n)) in
          let z = place.below k (omega (arith, within, n)) in omega (arith, a, z, is, more, least))
          ∙ sym (ap (λ t. is_among xs b && t) e ∙ and_none (is_among xs b))

-- Runs of blocks

pub within_none : (n b : ℕ) → (nat_le n b && nat_lt b n) ≡ false
within_none n b = ⊎_elim (λ (less : b < n). ap (λ t. t && nat_lt b n) (lt-leb n b less))
    (λ (rest : (n < b) ⊎ (b ≡ n)). let more : n ≤ b = ⊎_elim (λ (m : n < b). omega (arith, m)) (λ (m : b ≡ n). omega (arith, m)) rest in ap (λ t. nat_le n b && t) (le-ltb b n more) ∙ and_none (nat_le n b)) (below_or b n)

pub within_more : (first block b : ℕ) → first ≤ block → ((block == b) || (nat_le first b && nat_lt b block)) ≡ (nat_le first b && nat_lt b (block + 1))
within_more first block b low =
    ⊎_elim
    (λ (less : block < b).
    (λ i. different block b (omega (arith, less)) i || (nat_le first b && le-ltb b block (omega (arith, less)) i)) ∙ and_none (nat_le first b)
    ∙ sym (ap (λ t. nat_le first b && t) (le-ltb b (block + 1) (omega (arith, less))) ∙ and_none (nat_le first b)))
    (⊎_elim
    (λ (more : b < block).
    (λ i. different block b (omega (arith, more)) i || (nat_le first b && lt-ltb b block more i))
    ∙ ap (λ t. nat_le first b && t) (sym (lt-ltb b (block + 1) (omega (arith, more)))))
    (λ (same : block ≡ b).
    ap (λ t. t || (nat_le first b && nat_lt b block)) (alike block b same)
    ∙ sym (λ i. le-leb first b (omega (arith, low, same)) i && lt-ltb b (block + 1) (omega (arith, same)) i)))
    (below_or block b)
