-- Ranges that have no byte in common leave each other alone.
use Rattle.std.proofs.Common.{◌≡◌, ◌⊎◌, ℕ, ◌+◌, ◌-◌, ◌*◌, ◌<◌, ◌≤◌, min, List, [], ◌∷◌, ◌++◌, length, take, drop, replicate, inl, inr, ⊎_elim, refl, sym, ◌∙◌, ap, subst, arith, append_assoc, length-append, length-drop, length-take}
use Rattle.std.specs.Prelude.{Some}
use Rattle.std.proofs.lemmas.List.{take_at, drop_at, take_all, take_min, take-take, drop-take, drop-drop, length-replicate, take-append-le}
use Rattle.md5.specs.Md5.{md5}
use Rattle.pass_entry.specs.declared.record.Record.{Record}
use Rattle.pass_entry.proofs.Places.{take_append}
use Rattle.pass_outside.specs.Areas.{Torn}
use Rattle.pass_outside.specs.Areas as areas
use Rattle.pass_outside.specs.Images.{torn_written}
use Rattle.pass_plain.specs.Files.{written, resized, extended}
use Rattle.pass_plain.specs.Records.{range_len}
use Rattle.pass_plain.specs.WellLogged.{size_of}
use Rattle.pass_plain.proofs.Lists.{some_is}
use Rattle.pass_plain.proofs.Sizes.{length-resized}
use Rattle.pass_range.specs.Places.{place, found_there, Holds, IsApart}
use Rattle.pass_range.specs.Rows.{range, row_of, number_of, IsUnmatched}

-- places

-- two blocks with different numbers, of which each has at most so many bytes
blocks_apart : (a b len other_len : ℕ) → a < b → len ≤ 4096 → other_len ≤ 4096 → IsApart (a * 4096) len (b * 4096) other_len
blocks_apart a b len other_len less one two = inl (omega (arith, less, one))

pub places_apart : (number block other two len other_len : ℕ) → block < 1024 → two < 1024 → (number ≡ other → block ≡ two → ⊥) → len ≤ 4096 → other_len ≤ 4096
    → IsApart (place number block) len (place other two) other_len
places_apart number block other two len other_len first second differ one more =
    ⊎_elim (λ (less : number * 1024 + block < other * 1024 + two). blocks_apart (number * 1024 + block) (other * 1024 + two) len other_len less one more)
    (λ (rest : other * 1024 + two < number * 1024 + block). inr (omega (arith, rest, more)))
    (split (number * 1024 + block) (other * 1024 + two) (λ same. differ (omega (arith, same, first, second)) (omega (arith, same, first, second))))
  where
    split : (a b : ℕ) → (a ≡ b → ⊥) → (a < b) ⊎ (b < a)
    split a b apart = grind (arith, apart)

-- areas

-- lists with the same front have the same bytes there
same_there : (k a n : ℕ) (xs ys : List ℕ) → take k xs ≡ take k ys → a + n ≤ k → take n (drop a xs) ≡ take n (drop a ys)
same_there k a n xs ys same within =
    sym (drop-take a n xs)
    ∙ ap (drop a) (sym (take-take (a + n) k xs within) ∙ ap (take (a + n)) same ∙ take-take (a + n) k ys within)
    ∙ drop-take a n ys

-- bytes that an area has there lie within it
holds_within : (a : ℕ) (bytes area : List ℕ) → Holds a bytes area → 0 < length bytes → a + length bytes ≤ length area
holds_within a bytes area h some = omega (arith, some, ap length h, length-take (length bytes) (drop a area), length-drop a area)

-- a write apart from bytes leaves them, also one that failed
pub torn_apart : (at n : ℕ) (old new : List ℕ) → Torn at n old new → (a : ℕ) (bytes : List ℕ) → IsApart a (length bytes) at n → Holds a bytes old → Holds a bytes new
torn_apart at n old new torn a [] apart h = refl
torn_apart at n old new torn a (x ∷ xs) apart h =
    let within : a + length (x ∷ xs) ≤ length old = holds_within a (x ∷ xs) old h (omega arith) in
    ⊎_elim
    (λ (before : a + length (x ∷ xs) ≤ at).
    same_there (min at (length old)) a (length (x ∷ xs)) new old (torn.front ∙ sym (take_min at old)) (omega (arith, before, within)) ∙ h)
    (λ (behind : at + n ≤ a).
    let e = at + n in
    let k = length old - e in
    let bs = x ∷ xs in
    let splits : e + (a - e) ≡ a = omega (arith, behind) in
    let from : (area : List ℕ) → drop (a - e) (drop e area) ≡ drop a area = λ area. drop-drop (a - e) e area ∙ ap (λ (i : ℕ). drop i area) splits in
    ap (take (length bs)) (sym (from new))
    ∙ same_there k (a - e) (length bs) (drop e new) (drop e old) (torn.back ∙ sym (take_all k (drop e old) (omega (arith, length-drop e old)))) (omega (arith, within, behind))
    ∙ ap (take (length bs)) (from old) ∙ h)
    apart

-- what was written is there
pub holds_written : (old : List ℕ) (at : ℕ) (bytes : List ℕ) → Holds at bytes (areas.written old at bytes)
holds_written old at bytes =
    let head = take at old ++ replicate (at - length old) 0 in
    let tail = drop (at + length bytes) old in
    let long : length head ≡ at = omega (arith, length-append (take at old) (replicate (at - length old) 0), length-take at old, length-replicate {A = ℕ} (at - length old) 0) in
    ap (λ (l : List ℕ). take (length bytes) (drop at l)) (append_assoc head bytes tail)
    ∙ ap (take (length bytes)) (drop_at head (bytes ++ tail) at long)
    ∙ take_at bytes tail (length bytes) refl

-- bytes that an area has are found there
pub held_found : (at n : ℕ) (bytes area : List ℕ) → Holds at bytes area → length bytes ≡ n → found_there at n area ≡ bytes
held_found at n bytes area h size =
    let long : length bytes ≤ length (drop at area) = omega (arith, ap length h, length-take (length bytes) (drop at area)) in
    take-append-le n (drop at area) (replicate n 0) (omega (arith, long, size)) ∙ ap (λ (i : ℕ). take i (drop at area)) (sym size) ∙ h

-- a range of which the area has the bytes isn't unmatched
pub held_matched : (list : List Record) (store bytes : List ℕ) (p b number : ℕ) → number_of list p ≡ Some number → row_of list p b ≡ Some (md5 bytes)
    → length bytes ≡ range_len (size_of list p) b → Holds (place number b) bytes store → IsUnmatched list store p b → ⊥
held_matched list store bytes p b number numbered row size held un =
    let digest : un.digest ≡ md5 bytes = some_is un.digest (md5 bytes) (sym un.row ∙ row) in
    let same : un.number ≡ number = some_is un.number number (sym un.numbered ∙ numbered) in
    un.differs (ap (λ (i : ℕ). md5 (found_there (place i b) (range_len (size_of list p) b) store)) same ∙ ap md5 (held_found (place number b) (range_len (size_of list p) b) bytes store held size) ∙ sym digest)

-- ranges of contents

pub length-range : (b : ℕ) (l : List ℕ) → length (range b l) ≡ range_len (length l) b
length-range b l = omega (arith, length-take 4096 (drop (b * 4096) l), length-drop (b * 4096) l)

range_is : (b : ℕ) (l : List ℕ) (r : ℕ) → length (range b l) ≡ r → range b l ≡ take r (drop (b * 4096) l)
range_is b l r size =
    let short : r ≤ 4096 = omega (arith, size, length-take 4096 (drop (b * 4096) l)) in
    sym (take_all r (range b l) (omega (arith, size))) ∙ take-take r 4096 (drop (b * 4096) l) short

pub holds_range : (b : ℕ) (l : List ℕ) → Holds (b * 4096) (range b l) l
holds_range b l = sym (range_is b l (length (range b l)) refl)

pub range_held : (b : ℕ) (old new : List ℕ) → length (range b new) ≡ length (range b old) → Holds (b * 4096) (range b old) new → range b new ≡ range b old
range_held b old new size held = range_is b new (length (range b old)) size ∙ held

same_length : (b : ℕ) (old new : List ℕ) → range_len (length new) b ≡ range_len (length old) b → length (range b new) ≡ length (range b old)
same_length b old new same = length-range b new ∙ same ∙ sym (length-range b old)

-- content up to a place, and zeros behind it
front_is : (at : ℕ) (old : List ℕ) → take at (extended old at) ≡ take at old ++ replicate (at - length old) 0
front_is at old =
    take_append at old (replicate (at - length old) 0)
    ∙ ap (λ (l : List ℕ). take at old ++ l) (take_all (at - length old) (replicate (at - length old) 0) (omega (arith, length-replicate {A = ℕ} (at - length old) 0)))

pub written_is : (old : List ℕ) (at x : ℕ) (xs : List ℕ) → written old at (x ∷ xs) ≡ areas.written old at (x ∷ xs)
written_is old at x xs = ap (λ (l : List ℕ). l ++ x ∷ xs ++ drop (at + length (x ∷ xs)) old) (front_is at old)

-- a write apart from the block's range, after which that has the same length
pub range_put : (b at : ℕ) (old bytes : List ℕ) → (length bytes ≡ 0) ⊎ IsApart (b * 4096) (length (range b old)) at (length bytes)
    → range_len (length (written old at bytes)) b ≡ range_len (length old) b → range b (written old at bytes) ≡ range b old
range_put b at old [] apart same = refl
range_put b at old (x ∷ xs) none_or_apart same =
    let apart : IsApart (b * 4096) (length (range b old)) at (length (x ∷ xs)) = ⊎_elim (λ none. absurd (omega (arith, none))) (λ h. h) none_or_apart in
    range_held b old (written old at (x ∷ xs)) (same_length b old (written old at (x ∷ xs)) same)
    (subst (Holds (b * 4096) (range b old)) (sym (written_is old at x xs))
    (torn_apart at (length (x ∷ xs)) old (areas.written old at (x ∷ xs)) (torn_written old at (x ∷ xs)) (b * 4096) (range b old) apart (holds_range b old)))

-- a cut or an extension, after which the block's range has the same length
pub range_cut : (b size : ℕ) (old : List ℕ) → b * 4096 < size → range_len size b ≡ range_len (length old) b → range b (resized old size) ≡ range b old
range_cut b size old inside same =
    let new = resized old size in
    let k = min size (length old) in
    let long : length new ≡ size = length-resized old size in
    let lengths : length (range b new) ≡ length (range b old) = same_length b old new (ap (λ (n : ℕ). range_len n b) long ∙ same) in
    let front : take k new ≡ take k old = take-take k size (extended old size) (omega arith) ∙ take-append-le k old (replicate (size - length old) 0) (omega arith) in
    range_held b old new lengths (same_there k (b * 4096) (length (range b old)) new old front (omega (arith, inside, same, length-range b old)) ∙ holds_range b old)
