-- The prefixes of a session's history: their records, and the entries that their rows come from.
use Rattle.std.proofs.Common.{◌≡◌, ℕ, ◌<◌, ◌≤◌, List, [], ◌∷◌, ◌++◌, length, take, drop, Some, sym, ◌∙◌, ap, arith, append_assoc, length-append, length-take}
use Rattle.std.proofs.lemmas.List.{take-append-drop, append-nil, take-take}
use Rattle.pass_entry.specs.declared.entry.Entry.{Entry}
use Rattle.pass_entry.specs.declared.record.Record.{Record}
use Rattle.pass_plain.specs.Ceilings.{raised}
use Rattle.pass_plain.specs.Histories.{replay}
use Rattle.pass_plain.specs.Records.{entry_records, records_of}
use Rattle.pass_plain.specs.Files.{file_after}
use Rattle.pass_plain.proofs.Appends.{replay-++}
use Rattle.pass_plain.proofs.Calling.{legal_take}
use Rattle.pass_range.specs.Places.{place, Holds}
use Rattle.pass_range.specs.Rows.{range, number_of, IsUnmatched}
use Rattle.pass_range.specs.Sources.{row_source}
use Rattle.pass_range.specs.Lawful.{IsSet}
use Rattle.pass_range.proofs.Proved.{row_proved, earlier_proved, quiet_proved, number_proved, numbers_proved, matched_proved}
use Rattle.pass_keep.specs.Kept.{Story, IsStory, records_to, list_to, source_to, range_to}

-- records are only added
grows : (f : List Entry → Entry → List Record) (past : List Entry) (list : List Record) (es : List Entry)
    → (more : List Record) × (replay (λ past list e. list ++ f past e) past list es ≡ list ++ more)
grows f past list [] = ([], sym (append-nil list))
grows f past list (e ∷ es) =
    let rest = grows f (past ++ e ∷ []) (list ++ f past e) es in
    (f past e ++ rest.0, rest.1 ∙ append_assoc list (f past e) rest.0)

module _ (s : Story) where
  length_to : (n : ℕ) → n ≤ length s.history → length (take n s.history) ≡ n
  length_to n within = omega (arith, within, length-take n s.history)

  pub shorter : (q n : ℕ) → q ≤ n → take q (take n s.history) ≡ take q s.history
  shorter q n le = take-take q n s.history le

  pub records_more : (q n : ℕ) → q ≤ n → (more : List Record) × (records_to s n ≡ records_to s q ++ more)
  records_more q n le =
      let whole = take n s.history in
      let parts : take q s.history ++ drop q whole ≡ whole = ap (λ (h : List Entry). h ++ drop q whole) (sym (shorter q n le)) ∙ take-append-drop q whole in
      let step = λ (past : List Entry) (list : List Record) (e : Entry). list ++ entry_records s.session past e in
      let rest = grows (entry_records s.session) ([] ++ take q s.history) (records_to s q) (drop q whole) in
      (rest.0, ap (records_of s.session) (sym parts) ∙ replay-++ step [] [] (take q s.history) (drop q whole) ∙ rest.1)

  pub list_more : (q n : ℕ) → q ≤ n → (more : List Record) × (list_to s n ≡ list_to s q ++ more)
  list_more q n le =
      let more = records_more q n le in
      (more.0, ap (λ (l : List Record). raised s.before s.ceiling ++ l) more.1 ∙ sym (append_assoc (raised s.before s.ceiling) (records_to s q) more.0))

  -- a number stays
  pub number_later : (q n pnode number : ℕ) → q ≤ n → number_of (list_to s q) pnode ≡ Some number → number_of (list_to s n) pnode ≡ Some number
  number_later q n pnode number le is =
      let more = list_more q n le in
      ap (λ (l : List Record). number_of l pnode) more.1 ∙ (numbers_proved (list_to s q) pnode number is).0 more.0

  pub number_one : (n pnode other number : ℕ) → number_of (list_to s n) pnode ≡ Some number → number_of (list_to s n) other ≡ Some number → other ≡ pnode
  number_one n pnode other number is also = (numbers_proved (list_to s n) pnode number is).1 other also

  pub row_set : (n pnode block at : ℕ) → source_to s n pnode block ≡ Some at → IsSet (list_to s n) s.session (take n s.history) pnode block at
  row_set n pnode block at is = row_proved s.before s.ceiling s.session (take n s.history) pnode block at is

  pub source_below : (n pnode block at : ℕ) → n ≤ length s.history → source_to s n pnode block ≡ Some at → at < n
  source_below n pnode block at within is = omega (arith, (row_set n pnode block at is).below, length_to n within)

  -- a row that comes from below q is the one after q entries, and its range is the same
  pub source_earlier : (n q pnode block at : ℕ) → n ≤ length s.history → source_to s n pnode block ≡ Some at → at < q → q ≤ n
      → (source_to s q pnode block ≡ Some at) × (range_to s n pnode block ≡ range_to s q pnode block)
  source_earlier n q pnode block at within is low le =
      let both = earlier_proved s.session (take n s.history) pnode block at is q low (omega (arith, le, length_to n within)) in
      let same = shorter q n le in (
        ap (λ (h : List Entry). row_source s.session h pnode block) (sym same) ∙ both.0,
        both.1 ∙ ap (λ (h : List Entry). range block (file_after s.session h pnode)) same,
      )

  -- two prefixes with the same records have the same rows
  pub source_same : (q n pnode block : ℕ) → q ≤ n → n ≤ length s.history → list_to s n ≡ list_to s q → source_to s n pnode block ≡ source_to s q pnode block
  source_same q n pnode block le within same =
      let more = list_more q n le in
      let head = length-append (raised s.before s.ceiling) (records_to s n) in
      let tail = length-append (raised s.before s.ceiling) (records_to s q) in
      let long : length (records_to s n) ≡ length (records_to s q) = omega (arith, head, tail, ap length same) in
      quiet_proved s.session (take n s.history) q (omega (arith, le, length_to n within)) (long ∙ ap (λ (h : List Entry). length (records_of s.session h)) (sym (shorter q n le))) pnode block
      ∙ ap (λ (h : List Entry). row_source s.session h pnode block) (shorter q n le)

  pub list_same : (q n : ℕ) → records_to s n ≡ records_to s q → list_to s n ≡ list_to s q
  list_same q n same = ap (λ (l : List Record). raised s.before s.ceiling ++ l) same

  module _ (is : IsStory s) where
    pub number_known : (n pnode block at : ℕ) → source_to s n pnode block ≡ Some at → (number : ℕ) × (number_of (list_to s n) pnode ≡ Some number)
    number_known n pnode block at from =
        number_proved s.before s.ceiling s.session is.sound is.tells (take n s.history) (legal_take s.session s.history n is.legal) pnode block (row_set n pnode block at from).has

    pub matched : (n pnode block at number : ℕ) → source_to s n pnode block ≡ Some at → number_of (list_to s n) pnode ≡ Some number
        → (store : List ℕ) → Holds (place number block) (range_to s n pnode block) store → IsUnmatched (list_to s n) store pnode block → ⊥
    matched n pnode block at number from numbered store held =
        matched_proved s.before s.ceiling s.session is.sound is.tells (take n s.history) pnode block at number from numbered store held
