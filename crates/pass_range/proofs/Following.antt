-- Rows that come from entries of a history.
use Rattle.std.proofs.Common.{◌≡◌, ◌∙◌, ◌⊎◌, ◌&&◌, ◌+◌, ◌*◌, ◌<◌, ◌≤◌, ℕ, Bool, true, false, List, [], ◌∷◌, ◌++◌, length, take, refl, sym, ap, subst, arith, inl, inr, ⊎_elim, length-append}
use Rattle.std.specs.Prelude.{Some, nat_le, nat_lt, if◌then◌else◌}
use Rattle.std.proofs.lemmas.Bool.Decides.{nat_tests}
use Rattle.std.proofs.lemmas.List.{take-append-le, take_all, length_push, nil_from_length}
use Rattle.std.proofs.lemmas.Option.{none-some}
use Rattle.md5.specs.Md5.{md5}
use Rattle.pass_entry.specs.declared.entry.Entry.{Entry}
use Rattle.pass_entry.specs.declared.record.Record.{Record}
use Rattle.pass_plain.specs.Sessions.{Session}
use Rattle.pass_plain.specs.Files.{file_after}
use Rattle.pass_plain.specs.Records.{block_size, has_row, entry_records, records_of}
use Rattle.pass_plain.proofs.Lists.{true_left, true_right, some_is, below_is}
use Rattle.pass_range.specs.Rows.{range, row_of}
use Rattle.pass_range.specs.Sources.{Touch, stays, sets, goes, touch, row_after, source_after, row_source}
use Rattle.pass_range.specs.Lawful.{IsSet}
use Rattle.pass_range.proofs.Changing.{snoc_induction, records-next, row-step, source-step, changes, touch-step, file-kept, has-kept, digested, touch-changed, digested-begins, digested-has, kept-has, undigested-range}
use Rattle.pass_range.proofs.Digested.{content_touch}

-- a row that comes from an entry
abbrev IsHeld : List Record → Session → List Entry → ℕ → ℕ → ℕ → Type 0
IsHeld before session history p b k = IsSet (before ++ records_of session history) session history p b k

-- a row that an entry more leaves comes from where it came from
record IsLeft (session : Session) (history : List Entry) (e : Entry) (p b k : ℕ) : Type 0 where
  stayed : touch p b (entry_records session history e) ≡ stays
  came : row_source session history p b ≡ Some k
  same : range b (file_after session (history ++ e ∷ []) p) ≡ range b (file_after session history p)
  begins : b * 4096 < length (file_after session history p) → b * 4096 < length (file_after session (history ++ e ∷ []) p)
  had : has_row session (history ++ e ∷ []) p b ≡ true

-- or from the entry
record IsNew (session : Session) (history : List Entry) (e : Entry) (p b k : ℕ) : Type 0 where
  place : k ≡ length history
  set : touch p b (entry_records session history e) ≡ sets (md5 (range b (file_after session (history ++ e ∷ []) p)))
  block : b < 1024
  begins : b * 4096 < length (file_after session (history ++ e ∷ []) p)
  has : has_row session (history ++ e ∷ []) p b ≡ true

module _ (session : Session) (history : List Entry) (e : Entry) (p b k : ℕ) where
  abbrev next : List Entry
  next = history ++ e ∷ []

  -- the source of a row after an entry more, where its block had a row if it came from before
  one_more : row_source session next p b ≡ Some k → (row_source session history p b ≡ Some k → (has_row session history p b ≡ true) × (b < 1024)) → IsLeft session history e p b k ⊎ IsNew session history e p b k
  one_more is before = by_change (changes session history e p) refl
    where
      came : source_after (touch p b (entry_records session history e)) (length history) (row_source session history p b) ≡ Some k
      came = sym (source-step session history e p b) ∙ is

      by_touch : (t : changes session history e p ≡ true) (d n : Bool) → nat_lt b 1024 && digested session history e p t b ≡ d → nat_le (length (file_after session next p)) (b * block_size) ≡ n
          → touch p b (entry_records session history e) ≡ (if d then sets (md5 (range b (file_after session next p))) else if n then goes else stays)
          → IsLeft session history e p b k ⊎ IsNew session history e p b k
      by_touch t true n one two touched =
          inr (record {
            place = some_is k (length history) (sym (sym (ap (λ (x : Touch). source_after x (length history) (row_source session history p b)) touched) ∙ came));
            set = touched;
            block = below_is b 1024 (true_left (nat_lt b 1024) (digested session history e p t b) one);
            begins = digested-begins session history e p t b (true_right (nat_lt b 1024) (digested session history e p t b) one);
            has = digested-has session history e p t b (true_right (nat_lt b 1024) (digested session history e p t b) one);
          })
      by_touch t false true one two touched = absurd (none-some _ (sym (ap (λ (x : Touch). source_after x (length history) (row_source session history p b)) touched) ∙ came))
      by_touch t false false one two touched =
          let from : row_source session history p b ≡ Some k = sym (ap (λ (x : Touch). source_after x (length history) (row_source session history p b)) touched) ∙ came in
          let had = before from in
          let low : nat_lt b 1024 ≡ true = grind (arith, nat_tests, had.1) in
          let begins : b * 4096 < length (file_after session next p) = grind (arith, nat_tests, two) in
          inl (record {
            stayed = touched;
            came = from;
            same = undigested-range session history e p t b had.0 (sym (ap (λ (x : Bool). x && digested session history e p t b) low) ∙ one) begins;
            begins = λ _. begins;
            had = kept-has session history e p t b had.0 begins;
          })

      by_change : (t : Bool) → changes session history e p ≡ t → IsLeft session history e p b k ⊎ IsNew session history e p b k
      by_change false same =
          let touched : touch p b (entry_records session history e) ≡ stays = touch-step session history e p b ∙ ap (λ (t : Bool). if t then content_touch session history e b else stays) same in
          let from : row_source session history p b ≡ Some k = sym (ap (λ (x : Touch). source_after x (length history) (row_source session history p b)) touched) ∙ came in
          let kept = file-kept session history e p same in
          inl (record {
            stayed = touched;
            came = from;
            same = ap (range b) kept;
            begins = λ h. subst (λ (l : List ℕ). b * 4096 < length l) (sym kept) h;
            had = has-kept session history e p b same ∙ (before from).0;
          })
      by_change true changed =
          by_touch changed (nat_lt b 1024 && digested session history e p changed b) (nat_le (length (file_after session next p)) (b * block_size)) refl refl (touch-changed session history e p changed b)

-- each row that comes from an entry of a history
held : (before : List Record) (session : Session) (p b : ℕ) (history : List Entry) → (k : ℕ) → row_source session history p b ≡ Some k → IsHeld before session history p b k
held before session p b history = snoc_induction (λ h. (k : ℕ) → row_source session h p b ≡ Some k → IsHeld before session h p b k) (λ k is. absurd (none-some _ is)) more history
  where
    more : (history : List Entry) (e : Entry) → ((k : ℕ) → row_source session history p b ≡ Some k → IsHeld before session history p b k)
        → (k : ℕ) → row_source session (history ++ e ∷ []) p b ≡ Some k → IsHeld before session (history ++ e ∷ []) p b k
    more history e all k is =
        ⊎_elim
        (λ (left : IsLeft session history e p b k). let was = all k left.came in
        record {
          below = omega (arith, was.below, length_push history e);
          row = row-step session history e before p b ∙ ap (λ (t : Touch). row_after t (row_of (before ++ records_of session history) p b)) left.stayed ∙ was.row
              ∙ ap (λ (l : List ℕ). Some (md5 l)) (sym left.same);
          limited = was.limited;
          begins = left.begins was.begins;
          has = left.had;
        })
        (λ (new : IsNew session history e p b k). record {
          below = omega (arith, new.place, length_push history e);
          row = row-step session history e before p b ∙ ap (λ (t : Touch). row_after t (row_of (before ++ records_of session history) p b)) new.set;
          limited = new.block;
          begins = new.begins;
          has = new.has;
        })
        (one_more session history e p b k is (λ from. let was = all k from in (was.has, was.limited)))

pub row_law : (before : List Record) (session : Session) (history : List Entry) (p b k : ℕ) → row_source session history p b ≡ Some k → IsSet (before ++ records_of session history) session history p b k
row_law before session history p b k is = held before session p b history k is

-- the row that comes from below q was there after q entries, and its range has had the same bytes since
pub earlier_law : (session : Session) (p b k : ℕ) (history : List Entry) → row_source session history p b ≡ Some k → (q : ℕ) → k < q → q ≤ length history
    → (row_source session (take q history) p b ≡ Some k) × (range b (file_after session history p) ≡ range b (file_after session (take q history) p))
earlier_law session p b k history = snoc_induction
    (λ h. row_source session h p b ≡ Some k → (q : ℕ) → k < q → q ≤ length h → (row_source session (take q h) p b ≡ Some k) × (range b (file_after session h p) ≡ range b (file_after session (take q h) p)))
    (λ is q low high. absurd (none-some _ is)) more history
  where
    le_or : (q n : ℕ) → q ≤ n + 1 → (q ≤ n) ⊎ (q ≡ n + 1)
    le_or q n h = grind (arith, h)

    more : (history : List Entry) (e : Entry)
        → (row_source session history p b ≡ Some k → (q : ℕ) → k < q → q ≤ length history → (row_source session (take q history) p b ≡ Some k) × (range b (file_after session history p) ≡ range b (file_after session (take q history) p)))
        → row_source session (history ++ e ∷ []) p b ≡ Some k → (q : ℕ) → k < q → q ≤ length (history ++ e ∷ [])
        → (row_source session (take q (history ++ e ∷ [])) p b ≡ Some k) × (range b (file_after session (history ++ e ∷ []) p) ≡ range b (file_after session (take q (history ++ e ∷ [])) p))
    more history e all is q low high =
        ⊎_elim
        (λ (within : q ≤ length history).
        let front : take q (history ++ e ∷ []) ≡ take q history = take-append-le q history (e ∷ []) within in
        ⊎_elim
        (λ (left : IsLeft session history e p b k). let was = all left.came q low within in
        (ap (λ (h : List Entry). row_source session h p b) front ∙ was.0, left.same ∙ was.1 ∙ ap (λ (h : List Entry). range b (file_after session h p)) (sym front)))
        (λ (new : IsNew session history e p b k). absurd (omega (arith, new.place, low, within)))
        (one_more session history e p b k is (λ from. let was = held [] session p b history k from in (was.has, was.limited))))
        (λ (whole : q ≡ length history + 1).
        let all_of : take q (history ++ e ∷ []) ≡ history ++ e ∷ [] = take_all q (history ++ e ∷ []) (omega (arith, whole, length_push history e)) in
        (ap (λ (h : List Entry). row_source session h p b) all_of ∙ is, ap (λ (h : List Entry). range b (file_after session h p)) (sym all_of)))
        (le_or q (length history) (omega (arith, high, length_push history e)))

-- fewer entries have no more records
grown : (session : Session) (history : List Entry) (q : ℕ) → length (records_of session (take q history)) ≤ length (records_of session history)
grown session history = snoc_induction (λ h. (q : ℕ) → length (records_of session (take q h)) ≤ length (records_of session h))
    (λ q. let z = ap (λ (h : List Entry). length (records_of session h)) (take_all q [] (omega arith)) in omega (arith, z)) more history
  where
    le_or : (q n : ℕ) → (q ≤ n) ⊎ (n + 1 ≤ q)
    le_or q n = grind arith

    more : (history : List Entry) (e : Entry) → ((q : ℕ) → length (records_of session (take q history)) ≤ length (records_of session history))
        → (q : ℕ) → length (records_of session (take q (history ++ e ∷ []))) ≤ length (records_of session (history ++ e ∷ []))
    more history e all q =
        ⊎_elim
        (λ (within : q ≤ length history).
        let long = ap length (records-next session history e) ∙ length-append (records_of session history) (entry_records session history e) in
        let front = ap (λ (h : List Entry). length (records_of session h)) (take-append-le q history (e ∷ []) within) in
        let few = all q in
        omega (arith, long, front, few))
        (λ (past : length history + 1 ≤ q).
        let whole = ap (λ (h : List Entry). length (records_of session h)) (take_all q (history ++ e ∷ []) (omega (arith, past, length_push history e))) in
        omega (arith, whole))
        (le_or q (length history))

-- entries without records change no row
pub quiet_law : (session : Session) (p b : ℕ) (history : List Entry) (q : ℕ) → q ≤ length history → length (records_of session history) ≡ length (records_of session (take q history))
    → row_source session history p b ≡ row_source session (take q history) p b
quiet_law session p b history = snoc_induction
    (λ h. (q : ℕ) → q ≤ length h → length (records_of session h) ≡ length (records_of session (take q h)) → row_source session h p b ≡ row_source session (take q h) p b)
    (λ q high same. ap (λ (h : List Entry). row_source session h p b) (sym (take_all q [] (omega arith)))) more history
  where
    le_or : (q n : ℕ) → q ≤ n + 1 → (q ≤ n) ⊎ (q ≡ n + 1)
    le_or q n h = grind (arith, h)

    more : (history : List Entry) (e : Entry)
        → ((q : ℕ) → q ≤ length history → length (records_of session history) ≡ length (records_of session (take q history)) → row_source session history p b ≡ row_source session (take q history) p b)
        → (q : ℕ) → q ≤ length (history ++ e ∷ []) → length (records_of session (history ++ e ∷ [])) ≡ length (records_of session (take q (history ++ e ∷ [])))
        → row_source session (history ++ e ∷ []) p b ≡ row_source session (take q (history ++ e ∷ [])) p b
    more history e all q high same =
        ⊎_elim
        (λ (within : q ≤ length history).
        let front : take q (history ++ e ∷ []) ≡ take q history = take-append-le q history (e ∷ []) within in
        let long = ap length (records-next session history e) ∙ length-append (records_of session history) (entry_records session history e) in
        let short : length (records_of session (take q history)) ≤ length (records_of session history) = grown session history q in
        let fewer = ap (λ (h : List Entry). length (records_of session h)) front in
        let none : entry_records session history e ≡ [] = nil_from_length (entry_records session history e) (omega (arith, same, long, short, fewer)) in
        source-step session history e p b ∙ ap (λ (l : List Record). source_after (touch p b l) (length history) (row_source session history p b)) none
        ∙ all q within (omega (arith, same, long, short, fewer)) ∙ ap (λ (h : List Entry). row_source session h p b) (sym front))
        (λ (whole : q ≡ length history + 1). ap (λ (h : List Entry). row_source session h p b) (sym (take_all q (history ++ e ∷ []) (omega (arith, whole, length_push history e)))))
        (le_or q (length history) (omega (arith, high, length_push history e)))
