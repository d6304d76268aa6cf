-- Rows from before a session, and what an area had of their blocks.
use Rattle.std.proofs.Common.{◌≡◌, ◌∙◌, ◌+◌, ◌≤◌, ℕ, List, [], ◌∷◌, ◌++◌, length, take, drop, refl, sym, ap, arith, ⊎_elim, ◌⊎◌, length-take, length-drop}
use Rattle.std.specs.Prelude.{Option, Some, None}
use Rattle.std.proofs.lemmas.List.{take-append-le, take_all, take-take, length_push}
use Rattle.pass_entry.specs.declared.entry.Entry.{Entry}
use Rattle.pass_entry.specs.declared.record.Record.{Record}
use Rattle.pass_plain.specs.Sessions.{Session}
use Rattle.pass_plain.specs.Records.{entry_records, records_of}
use Rattle.pass_range.specs.Places.{found_there, stands_there, Holds}
use Rattle.pass_range.specs.Rows.{row_of}
use Rattle.pass_range.specs.Sources.{Touch, stays, sets, goes, touch, row_after, source_after, row_source}
use Rattle.pass_range.proofs.Apart.{held_found}
use Rattle.pass_range.proofs.Changing.{snoc_induction, row-step, source-step}

-- a row with no source was there before the touch
untouched : (t : Touch) (row : Option (List ℕ)) (source : Option ℕ) (place : ℕ) (digest : List ℕ) → row_after t row ≡ Some digest → source_after t place source ≡ None
    → (row ≡ Some digest) × (source ≡ None)
untouched stays row source place digest is none = (is, none)
untouched (sets d) row source place digest is none = absurd (cc)
untouched goes row source place digest is none = absurd (cc)

pub older_law : (before : List Record) (session : Session) (p b : ℕ) (digest : List ℕ) (history : List Entry) → row_of (before ++ records_of session history) p b ≡ Some digest
    → row_source session history p b ≡ None → (q : ℕ)
    → (row_of (before ++ records_of session (take q history)) p b ≡ Some digest) × (row_source session (take q history) p b ≡ None)
older_law before session p b digest history = snoc_induction
    (λ h. row_of (before ++ records_of session h) p b ≡ Some digest → row_source session h p b ≡ None → (q : ℕ)
    → (row_of (before ++ records_of session (take q h)) p b ≡ Some digest) × (row_source session (take q h) p b ≡ None))
    (λ is none q. whole [] q (omega arith) is none) more history
  where
    whole : (h : List Entry) (q : ℕ) → length h ≤ q → row_of (before ++ records_of session h) p b ≡ Some digest → row_source session h p b ≡ None
        → (row_of (before ++ records_of session (take q h)) p b ≡ Some digest) × (row_source session (take q h) p b ≡ None)
    whole h q long is none =
        let same : take q h ≡ h = take_all q h long in
        (ap (λ (l : List Entry). row_of (before ++ records_of session l) p b) same ∙ is, ap (λ (l : List Entry). row_source session l p b) same ∙ none)

    le_or : (q n : ℕ) → (q ≤ n) ⊎ (n + 1 ≤ q)
    le_or q n = grind arith

    more : (h : List Entry) (e : Entry)
        → (row_of (before ++ records_of session h) p b ≡ Some digest → row_source session h p b ≡ None → (q : ℕ)
        → (row_of (before ++ records_of session (take q h)) p b ≡ Some digest) × (row_source session (take q h) p b ≡ None))
        → row_of (before ++ records_of session (h ++ e ∷ [])) p b ≡ Some digest → row_source session (h ++ e ∷ []) p b ≡ None → (q : ℕ)
        → (row_of (before ++ records_of session (take q (h ++ e ∷ []))) p b ≡ Some digest) × (row_source session (take q (h ++ e ∷ [])) p b ≡ None)
    more h e all is none q = ⊎_elim
        (λ (within : q ≤ length h).
        let front : take q (h ++ e ∷ []) ≡ take q h = take-append-le q h (e ∷ []) within in
        let was = untouched (touch p b (entry_records session h e)) (row_of (before ++ records_of session h) p b) (row_source session h p b) (length h) digest
        (sym (row-step session h e before p b) ∙ is) (sym (source-step session h e p b) ∙ none) in
        let old = all was.0 was.1 q in
        (ap (λ (l : List Entry). row_of (before ++ records_of session l) p b) front ∙ old.0, ap (λ (l : List Entry). row_source session l p b) front ∙ old.1))
        (λ (past : length h + 1 ≤ q). whole (h ++ e ∷ []) q (omega (arith, past, length_push h e)) is none)
        (le_or q (length h))

-- a front of bytes that an area has there
front_holds : (at n : ℕ) (bytes area : List ℕ) → Holds at bytes area → n ≤ length bytes → Holds at (take n bytes) area
front_holds at n bytes area holds few =
    let long : length (take n bytes) ≡ n = omega (arith, few, length-take n bytes) in
    ap (λ (k : ℕ). take k (drop at area)) long ∙ sym (take-take n (length bytes) (drop at area) few) ∙ ap (take n) holds

pub stands_found : (at len : ℕ) (old new : List ℕ) → Holds at (stands_there at old) new → len ≤ 4096 → at + len ≤ length old → found_there at len new ≡ found_there at len old
stands_found at len old new holds few within =
    let there : len ≤ length (stands_there at old) = omega (arith, few, within, length-take 4096 (drop at old), length-drop at old) in
    let front : take len (stands_there at old) ≡ take len (drop at old) = take-take len 4096 (drop at old) few in
    let size : length (take len (drop at old)) ≡ len = omega (arith, within, length-take len (drop at old), length-drop at old) in
    let own : Holds at (take len (drop at old)) old = ap (λ (k : ℕ). take k (drop at old)) size in
    let kept : found_there at len new ≡ take len (stands_there at old) =
    held_found at len (take len (stands_there at old)) new (front_holds at len (stands_there at old) new holds there) (ap length front ∙ size) in
    kept ∙ front ∙ sym (held_found at len (take len (drop at old)) old own size)
