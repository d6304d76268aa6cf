-- An entry gives few blocks a digest.
use Rattle.std.proofs.Common.{◌≡◌, ◌∙◌, ◌==◌, ◌+◌, ◌-◌, ◌*◌, ◌<◌, ◌≤◌, ℕ, zero, suc, Bool, true, false, cond, not, ◌&&◌, ◌||◌, min, List, [], ◌∷◌, ◌++◌, length, refl, ap, sym, subst, arith, inl, inr}
use Rattle.std.specs.Prelude.{filter, nat_lt}
use Rattle.std.specs.List.{range_with_len}
use Rattle.pass_entry.specs.declared.entry.Entry.{Entry}
use Rattle.pass_entry.specs.declared.entry.Act.{Act}
use Rattle.pass_entry.specs.declared.entry.Act.TheVariants as act
use Rattle.pass_plain.specs.Sessions.{Session}
use Rattle.pass_plain.specs.Sound.{IsSound}
use Rattle.pass_plain.specs.Files.{file_after, file_act}
use Rattle.pass_plain.specs.Records.{block_size, range_len, has_row, is_written, is_digested}
use Rattle.pass_plain.proofs.Lists.{true_left, true_right, not_true, below_is, same_itself, le_or_above}
use Rattle.pass_range.proofs.Changing.{snoc_induction, changes, change-is, file-kept, has-kept, file-changed, has-changed}
use Rattle.pass_range.proofs.Rowed.{opened_begins, act_begins}
use Rattle.pass_bounds.proofs.Arguments.{HasTexts}

-- how many numbers pass a test

count_below : (test : ℕ → Bool) (high : ℕ) → ((x : ℕ) → test x ≡ true → x < high) → (first n : ℕ) → length (filter test (range_with_len first n)) ≤ high - first
count_below test high below first zero = omega arith
count_below test high below first (suc n) = by_test (test first) refl (count_below test high below (first + 1) n)
  where
    by_test : (b : Bool) → test first ≡ b → length (filter test (range_with_len (first + 1) n)) ≤ high - (first + 1)
        → length (cond b (first ∷ filter test (range_with_len (first + 1) n)) (filter test (range_with_len (first + 1) n))) ≤ high - first
    by_test true passes later = let low = below first passes in omega (arith, low, later)
    by_test false passes later = omega (arith, later)

count_close : (test : ℕ → Bool) (width : ℕ) → ((x y : ℕ) → test x ≡ true → test y ≡ true → y < x + width) → (first n : ℕ) → length (filter test (range_with_len first n)) ≤ width
count_close test width close first zero = omega arith
count_close test width close first (suc n) = by_test (test first) refl (count_close test width close (first + 1) n)
  where
    by_test : (b : Bool) → test first ≡ b → length (filter test (range_with_len (first + 1) n)) ≤ width
        → length (cond b (first ∷ filter test (range_with_len (first + 1) n)) (filter test (range_with_len (first + 1) n))) ≤ width
    by_test true passes later =
        let here = close first first passes passes in
        let rest = count_below test (first + width) (λ y so. close first y passes so) (first + 1) n in
        omega (arith, here, rest)
    by_test false passes later = later

count_either : (one two : ℕ → Bool) (xs : List ℕ) → length (filter (λ x. one x || two x) xs) ≤ length (filter one xs) + length (filter two xs)
count_either one two [] = omega arith
count_either one two (x ∷ xs) = by_tests (one x) (two x) (count_either one two xs)
  where
    by_tests : (a b : Bool) → length (filter (λ x. one x || two x) xs) ≤ length (filter one xs) + length (filter two xs)
        → length (cond (a || b) (x ∷ filter (λ x. one x || two x) xs) (filter (λ x. one x || two x) xs)) ≤ length (cond a (x ∷ filter one xs) (filter one xs)) + length (cond b (x ∷ filter two xs) (filter two xs))
    by_tests true true later = omega (arith, later)
    by_tests true false later = omega (arith, later)
    by_tests false true later = omega (arith, later)
    by_tests false false later = omega (arith, later)

-- a block with a row begins within its file

row_begins : (session : Session) → IsSound session → (p b : ℕ) (history : List Entry) → has_row session history p b ≡ true → b * 4096 < length (file_after session history p)
row_begins session sound p b = snoc_induction (λ h. has_row session h p b ≡ true → b * 4096 < length (file_after session h p)) (opened_begins session.start.files.items p b sound.files) more
  where
    more : (history : List Entry) (e : Entry) → (has_row session history p b ≡ true → b * 4096 < length (file_after session history p))
        → has_row session (history ++ e ∷ []) p b ≡ true → b * 4096 < length (file_after session (history ++ e ∷ []) p)
    more history e was has = by_change (changes session history e p) refl
      where
        by_change : (t : Bool) → changes session history e p ≡ t → b * 4096 < length (file_after session (history ++ e ∷ []) p)
        by_change false kept = subst (λ (l : List ℕ). b * 4096 < length l) (sym (file-kept session history e p kept)) (was (sym (has-kept session history e p b kept) ∙ has))
        by_change true changed =
            subst (λ (l : List ℕ). b * 4096 < length l) (sym (file-changed session history e p changed))
            (act_begins e.act (file_after session history p) (has_row session history p b) b (change-is session history e p changed) was (sym (has-changed session history e p changed b) ∙ has))

-- a write of at most 4,096 bytes touches two blocks at most
written_close : (a : Act) → HasTexts a → (x y : ℕ) → is_written a x ≡ true → is_written a y ≡ true → y < x + 2
written_close (act.Put out at bytes) short x y one two =
    let len = length bytes in
    let far : at < (x + 1) * 4096 = below_is at ((x + 1) * 4096) (true_right (nat_lt 0 len && nat_lt (x * block_size) (at + len)) (nat_lt at ((x + 1) * block_size)) one) in
    let near : y * 4096 < at + len = below_is (y * 4096) (at + len) (true_right (nat_lt 0 len) (nat_lt (y * block_size) (at + len)) (true_left (nat_lt 0 len && nat_lt (y * block_size) (at + len)) (nat_lt at ((y + 1) * block_size)) two)) in
    omega (arith, far, near, short)
written_close _ text x y one two = absurd (cc)

-- the part of a file in a block has another length only behind the end of the shorter one
differs_late : (old new x : ℕ) → not (range_len old x == range_len new x) ≡ true → min old new < (x + 1) * 4096
differs_late old new x differ = elim (le_or_above ((x + 1) * 4096) (min old new)) [
  | inl within ↦ absurd (
      let same : range_len old x ≡ range_len new x = omega (arith, within) in
      let z : true ≡ false = sym (same_itself (range_len old x)) ∙ ap (λ n. range_len old x == n) same ∙ not_true (range_len old x == range_len new x) differ in cc
      )
  | inr late ↦ late
]

-- an entry gives three blocks a digest at most
pub digested_few : (session : Session) → IsSound session → (past : List Entry) (e : Entry) → HasTexts e.act → length (filter (is_digested session past e) (range_with_len 0 1024)) ≤ 3
digested_few session sound past e text =
    let both = count_either (is_written e.act) stretched (range_with_len 0 1024) in
    let two = count_close (is_written e.act) 2 (written_close e.act text) 0 1024 in
    let one = count_close stretched 1 stretched_close 0 1024 in
    omega (arith, both, two, one)
  where
    old : List ℕ
    old = file_after session past e.what

    new : List ℕ
    new = file_act (file_after session past e.what) e.act

    stretched : ℕ → Bool
    stretched block = has_row session past e.what block && nat_lt (block * block_size) (length new) && not (range_len (length old) block == range_len (length new) block)

    stretched_close : (x y : ℕ) → stretched x ≡ true → stretched y ≡ true → y < x + 1
    stretched_close x y one two =
        let late = differs_late (length old) (length new) x (true_right (has_row session past e.what x && nat_lt (x * block_size) (length new)) _ one) in
        let front = true_left (has_row session past e.what y && nat_lt (y * block_size) (length new)) _ two in
        let had = row_begins session sound e.what y past (true_left (has_row session past e.what y) (nat_lt (y * block_size) (length new)) front) in
        let low : y * 4096 < length new = below_is (y * 4096) (length new) (true_right (has_row session past e.what y) (nat_lt (y * block_size) (length new)) front) in
        omega (arith, late, had, low)
