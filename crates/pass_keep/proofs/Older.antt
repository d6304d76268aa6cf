-- What the store area had before a session, in the blocks whose row no entry changed.
use Rattle.std.proofs.Common.{◌≡◌, ◌∙◌, ◌<◌, ◌≤◌, ◌*◌, ℕ, Bool, true, List, length, take, drop, Some, sym, ap, arith, length-take}
use Rattle.std.specs.Prelude.{None, is_some}
use Rattle.std.proofs.lemmas.List.{take_min}
use Rattle.pass_entry.specs.declared.entry.Entry.{Entry}
use Rattle.pass_entry.specs.declared.record.Record.{Record}
use Rattle.pass_entry.proofs.Variants.{some_of}
use Rattle.pass_plain.specs.Files.{file_after}
use Rattle.pass_plain.specs.Records.{has_row, list_of}
use Rattle.pass_plain.proofs.Lists.{some_is}
use Rattle.pass_plain.proofs.Sizes.{files_fit}
use Rattle.pass_plain.proofs.Calling.{legal_take}
use Rattle.pass_range.specs.Places.{place, stands_there, Holds}
use Rattle.pass_range.specs.Rows.{row_of, number_of}
use Rattle.pass_range.specs.Sources.{row_source}
use Rattle.pass_range.proofs.Proved.{older_proved, has_row_proved, number_proved}
use Rattle.pass_keep.specs.Kept.{Story, IsStory, list_to, source_to, HasRecords, AreOlder}
use Rattle.pass_keep.proofs.Stories.{shorter, number_later, source_same}

-- what an area had stands there
stood : (at : ℕ) (area : List ℕ) → Holds at (stands_there at area) area
stood at area = ap (λ (k : ℕ). take k (drop at area)) (length-take 4096 (drop at area)) ∙ take_min 4096 (drop at area)

-- an area that is as it was
pub older_first : (s : Story) (n : ℕ) (store : List ℕ) → store ≡ s.store → AreOlder s n store
older_first s n store same = λ p b number row none numbered.
    ap (λ (area : List ℕ). take (length (stands_there (place number b) s.store)) (drop (place number b) area)) same ∙ stood (place number b) s.store

-- two prefixes with the same list
pub older_same : (s : Story) (n q : ℕ) → list_to s n ≡ list_to s q → q ≤ n → n ≤ length s.history → (store : List ℕ) → AreOlder s n store → AreOlder s q store
older_same s n q lists le within store older = λ p b number row none numbered.
    older p b number (ap (λ (l : List Record). is_some (row_of l p b)) lists ∙ row) (source_same s q n p b le within lists ∙ none) (ap (λ (l : List Record). number_of l p) lists ∙ numbered)

module _ (s : Story) (is : IsStory s) where
  has_row_is : (n p b : ℕ) → is_some (row_of (list_to s n) p b) ≡ true → has_row s.session (take n s.history) p b ≡ true
  has_row_is n p b row = sym (has_row_proved s.before s.ceiling s.session is.sound is.tells (take n s.history) (legal_take s.session s.history n is.legal) p b).0 ∙ row

  -- a row of a file lies within the places of a file
  pub older_limited : (n p b : ℕ) → is_some (row_of (list_to s n) p b) ≡ true → b < 1024
  older_limited n p b row =
      let legal = legal_take s.session s.history n is.legal in
      let begins : b * 4096 < length (file_after s.session (take n s.history) p) =
      (has_row_proved s.before s.ceiling s.session is.sound is.tells (take n s.history) legal p b).1 (has_row_is n p b row) in
      let most : length (file_after s.session (take n s.history) p) ≤ 4194304 = files_fit s.session is.sound (take n s.history) legal p in
      omega (arith, begins, most)

  -- a row from before was there after fewer entries
  pub older_at : (n q p b : ℕ) → q ≤ n → is_some (row_of (list_to s n) p b) ≡ true → source_to s n p b ≡ None
      → (is_some (row_of (list_to s q) p b) ≡ true) × (source_to s q p b ≡ None)
  older_at n q p b le row none =
      let some = some_of (row_of (list_to s n) p b) row in
      let was = older_proved s.before s.ceiling s.session (take n s.history) p b some.0 some.1 none q in
      let same : take q (take n s.history) ≡ take q s.history = shorter s q n le in (
        ap (λ (h : List Entry). is_some (row_of (list_of s.before s.ceiling s.session h) p b)) (sym same) ∙ ap is_some was.0,
        ap (λ (h : List Entry). row_source s.session h p b) (sym same) ∙ was.1,
      )

  -- more entries
  pub older_more : (n q : ℕ) → q ≤ n → (store : List ℕ) → AreOlder s q store → AreOlder s n store
  older_more n q le store older = λ p b number row none numbered.
      let was = older_at n q p b le row none in
      let known = number_proved s.before s.ceiling s.session is.sound is.tells (take q s.history) (legal_take s.session s.history q is.legal) p b (has_row_is q p b was.0) in
      let same : known.0 ≡ number = some_is known.0 number (sym (number_later s q n p known.0 le known.1) ∙ numbered) in
      older p b number was.0 was.1 (known.1 ∙ ap (λ (i : ℕ). Some i) same)
