-- The blocks that have a row in the table of a session's list are those that have one by the history.
use Rattle.std.proofs.Common.{◌≡◌, ◌∙◌, ◌==◌, ◌&&◌, ◌*◌, ◌<◌, ◌≤◌, ℕ, suc, Bool, true, false, not, cond, List, [], ◌∷◌, ◌++◌, length, refl, sym, ap, subst, arith, inl, inr, ⊎_elim, ◌⊎◌}
use Rattle.std.specs.Prelude.{Option, Some, None, find, is_some, slice_get, nat_le, nat_lt, if◌then◌else◌}
use Rattle.std.specs.Option.{option_map_or}
use Rattle.std.specs.List.{list_any}
use Rattle.std.proofs.lemmas.Bool.Decides.{nat_tests}
use Rattle.std.proofs.lemmas.Bool.{false_from_ne_true}
use Rattle.std.proofs.lemmas.List.{append-nil}
use Rattle.md5.specs.Md5.{md5}
use Rattle.pass_entry.specs.declared.entry.Entry.{Entry}
use Rattle.pass_entry.specs.declared.entry.Act.{Act}
use Rattle.pass_entry.specs.declared.entry.Act.TheVariants as act
use Rattle.pass_entry.specs.declared.record.Record.{Record}
use Rattle.pass_plain.specs.declared.start.StartFile.{StartFile}
use Rattle.pass_plain.specs.Sessions.{Session, opening_bytes}
use Rattle.pass_plain.specs.Files.{file_after, file_act}
use Rattle.pass_plain.specs.Legal.{IsLegal, MayFollow}
use Rattle.pass_plain.specs.Sound.{IsSound, IsSoundFile}
use Rattle.pass_plain.specs.Records.{block_size, range_len, has_row, row_act, is_written, entry_records, records_of}
use Rattle.pass_plain.proofs.Lists.{true_right, or_false, below_is, not_below, at_most, same_numbers, any_at}
use Rattle.pass_plain.proofs.Calling.{legal_induction}
use Rattle.pass_plain.proofs.Appends.{legal-push}
use Rattle.pass_plain.proofs.Sizes.{files_fit, written_begins, no_shorter, length-resized}
use Rattle.pass_range.specs.Rows.{range, row_of}
use Rattle.pass_range.specs.Sources.{Touch, stays, sets, goes, touch, row_after, source_after, row_source}
use Rattle.pass_range.specs.Lawful.{Tells}
use Rattle.pass_range.proofs.Digested.{is_change, content_touch}
use Rattle.pass_range.proofs.Changing.{row-step, source-step, undigested-range, changes, touch-step, file-kept, has-kept, file-changed, has-changed, change-is, digested, touch-changed, digested-has, kept-has}

-- a row of the opening begins within its file
pub opened_begins : (files : List StartFile) (p b : ℕ) → ((i : ℕ) (file : StartFile) → slice_get files i ≡ Some file → IsSoundFile file)
    → list_any (λ x. x == b) (option_map_or (λ (f : StartFile). f.rows.items) (find (λ f. f.node.pnode == p) files) []) ≡ true
    → b * 4096 < length (option_map_or (λ (f : StartFile). f.bytes.items) (find (λ f. f.node.pnode == p) files) [])
opened_begins [] p b sound has = absurd (cc)
opened_begins (f ∷ files) p b sound has = by_test (f.node.pnode == p) (opened_begins files p b (λ i file at. sound (suc i) file at)) has
  where
    by_test : (t : Bool)
        → (list_any (λ x. x == b) (option_map_or (λ (f : StartFile). f.rows.items) (find (λ f. f.node.pnode == p) files) []) ≡ true
        → b * 4096 < length (option_map_or (λ (f : StartFile). f.bytes.items) (find (λ f. f.node.pnode == p) files) []))
        → list_any (λ x. x == b) (option_map_or (λ (f : StartFile). f.rows.items) (cond t (Some f) (find (λ f. f.node.pnode == p) files)) []) ≡ true
        → b * 4096 < length (option_map_or (λ (f : StartFile). f.bytes.items) (cond t (Some f) (find (λ f. f.node.pnode == p) files)) [])
    by_test true more has =
        let at = any_at (λ x. x == b) f.rows.items has in
        let s = sound 0 f refl in
        let low = s.within at.0 at.1 at.2 in
        let is : at.1 ≡ b = same_numbers at.1 b at.3 in
        omega (arith, low, is, s.sized)
    by_test false more has = more has

-- after an act a block with a row begins within the file
pub act_begins : (a : Act) (old : List ℕ) (had : Bool) (b : ℕ) → is_change a ≡ true → (had ≡ true → b * 4096 < length old) → row_act b had a ≡ true → b * 4096 < length (file_act old a)
act_begins (act.Put out at bytes) old true b change was has = let z = was refl in omega (arith, z, no_shorter old at bytes)
act_begins (act.Put out at bytes) old false b change was has = written_begins (act.Put out at bytes) old b has
act_begins (act.Cut out size) old had b change was has =
    let low : b * 4096 < size = below_is (b * 4096) size (true_right had (nat_lt (b * block_size) size) has) in
    omega (arith, low, length-resized old size)
act_begins a old had b change was has = absurd (cc)

-- a block that had no row has one only where it was written
row_new : (a : Act) (b : ℕ) → is_written a b ≡ false → row_act b false a ≡ false
row_new (act.Put out at bytes) b none = none
row_new (act.Cut out size) b none = refl
row_new a b none = refl

record IsRowed (before : List Record) (session : Session) (history : List Entry) (p b : ℕ) : Type 0 where
  same : is_some (row_of (before ++ records_of session history) p b) ≡ has_row session history p b
  begins : has_row session history p b ≡ true → b * 4096 < length (file_after session history p)

rowed : (before : List Record) (session : Session) → IsSound session → Tells before session.start → (p b : ℕ) (history : List Entry) → IsLegal session history → IsRowed before session history p b
rowed before session sound tells p b = legal_induction session (λ h. IsRowed before session h p b)
    (record {
      same = ap (λ (l : List Record). is_some (row_of l p b)) (append-nil before) ∙ tells.rows p b;
      begins = λ has. opened_begins session.start.files.items p b sound.files has;
    }) more
  where
    more : (history : List Entry) (e : Entry) → IsLegal session history → IsRowed before session history p b → MayFollow session history e → IsRowed before session (history ++ e ∷ []) p b
    more history e legal was next = by_change (changes session history e p) refl
      where
        by_change : (t : Bool) → changes session history e p ≡ t → IsRowed before session (history ++ e ∷ []) p b
        by_change false kept = record {
          same = ap is_some (row-step session history e before p b ∙ ap (λ (t : Touch). row_after t (row_of (before ++ records_of session history) p b)) (touch-step session history e p b ∙ ap (λ (t : Bool). if t then content_touch session history e b else stays) kept))
              ∙ was.same ∙ sym (has-kept session history e p b kept);
          begins = λ has. subst (λ (l : List ℕ). b * 4096 < length l) (sym (file-kept session history e p kept)) (was.begins (sym (has-kept session history e p b kept) ∙ has));
        }
        by_change true changed =
            let begins : has_row session (history ++ e ∷ []) p b ≡ true → b * 4096 < length (file_after session (history ++ e ∷ []) p) = λ has.
            subst (λ (l : List ℕ). b * 4096 < length l) (sym (file-changed session history e p changed))
            (act_begins e.act (file_after session history p) (has_row session history p b) b (change-is session history e p changed) was.begins (sym (has-changed session history e p changed b) ∙ has)) in
            record {
              same = ap is_some (row-step session history e before p b)
                  ∙ by_touch (nat_lt b 1024) (digested session history e p changed b) (nat_le (length (file_after session (history ++ e ∷ []) p)) (b * block_size)) (has_row session history p b) refl refl refl refl begins
                  (touch-changed session history e p changed b);
              begins = begins;
            }
          where
            past_end : nat_le (length (file_after session (history ++ e ∷ []) p)) (b * block_size) ≡ true → length (file_after session (history ++ e ∷ []) p) ≤ b * 4096
            past_end h = at_most (length (file_after session (history ++ e ∷ []) p)) (b * 4096) h

            not_past : nat_le (length (file_after session (history ++ e ∷ []) p)) (b * block_size) ≡ false → b * 4096 < length (file_after session (history ++ e ∷ []) p)
            not_past h = grind (arith, nat_tests, h)

            unwritten : digested session history e p changed b ≡ false → is_written e.act b ≡ false
            unwritten h =
                (or_false (is_written e.act b) (has_row session history p b && nat_lt (b * block_size) (length (file_after session (history ++ e ∷ []) p))
                && not (range_len (length (file_after session history p)) b == range_len (length (file_after session (history ++ e ∷ []) p)) b)) h).0

            gone : touch p b (entry_records session history e) ≡ goes → length (file_after session (history ++ e ∷ []) p) ≤ b * 4096
                → (has_row session (history ++ e ∷ []) p b ≡ true → b * 4096 < length (file_after session (history ++ e ∷ []) p))
                → is_some (row_after (touch p b (entry_records session history e)) (row_of (before ++ records_of session history) p b)) ≡ has_row session (history ++ e ∷ []) p b
            gone touched short begins =
                ap (λ (t : Touch). is_some (row_after t (row_of (before ++ records_of session history) p b))) touched
                ∙ sym (false_from_ne_true (has_row session (history ++ e ∷ []) p b) (λ has. let z = begins has in omega (arith, z, short)))

            by_touch : (l d n had : Bool) → nat_lt b 1024 ≡ l → digested session history e p changed b ≡ d → nat_le (length (file_after session (history ++ e ∷ []) p)) (b * block_size) ≡ n → has_row session history p b ≡ had
                → (has_row session (history ++ e ∷ []) p b ≡ true → b * 4096 < length (file_after session (history ++ e ∷ []) p))
                → touch p b (entry_records session history e) ≡ (if l && d then sets (md5 (range b (file_after session (history ++ e ∷ []) p))) else if n then goes else stays)
                → is_some (row_after (touch p b (entry_records session history e)) (row_of (before ++ records_of session history) p b)) ≡ has_row session (history ++ e ∷ []) p b
            by_touch true true n had low is past has begins touched =
                ap (λ (t : Touch). is_some (row_after t (row_of (before ++ records_of session history) p b))) touched ∙ sym (digested-has session history e p changed b is)
            by_touch true false true had low is past has begins touched = gone touched (past_end past) begins
            by_touch true false false true low is past has begins touched =
                ap (λ (t : Touch). is_some (row_after t (row_of (before ++ records_of session history) p b))) touched ∙ was.same ∙ has
                ∙ sym (kept-has session history e p changed b has (not_past past))
            by_touch true false false false low is past has begins touched =
                ap (λ (t : Touch). is_some (row_after t (row_of (before ++ records_of session history) p b))) touched ∙ was.same ∙ has
                ∙ sym (has-changed session history e p changed b ∙ ap (λ (t : Bool). row_act b t e.act) has ∙ row_new e.act b (unwritten is))
            by_touch false d true had low is past has begins touched = gone touched (past_end past) begins
            by_touch false d false had low is past has begins touched =
                absurd (let most = files_fit session sound (history ++ e ∷ []) (legal-push session history e legal next) p in let high = not_below b 1024 low in let inside = not_past past in omega arith)

pub has_row_law : (before : List Record) (session : Session) → IsSound session → Tells before session.start → (history : List Entry) → IsLegal session history → (p b : ℕ)
    → is_some (row_of (before ++ records_of session history) p b) ≡ has_row session history p b
has_row_law before session sound tells history legal p b = (rowed before session sound tells p b history legal).same

pub begins_law : (session : Session) → IsSound session → (before : List Record) → Tells before session.start → (history : List Entry) → IsLegal session history → (p b : ℕ)
    → has_row session history p b ≡ true → b * 4096 < length (file_after session history p)
begins_law session sound before tells history legal p b has = (rowed before session sound tells p b history legal).begins has

-- a row that comes from no entry of the history is one from before, and its range has had the same bytes since
abbrev IsFromBefore : List Record → Session → List Entry → ℕ → ℕ → Type 0
IsFromBefore before session history p b =
    (row_of (before ++ records_of session history) p b ≡ None)
    ⊎ ((row_of (before ++ records_of session history) p b ≡ row_of before p b) × (range b (file_after session history p) ≡ range b (opening_bytes session.start p)))

pub before_law : (before : List Record) (session : Session) → IsSound session → Tells before session.start → (p b : ℕ) (history : List Entry) → IsLegal session history
    → row_source session history p b ≡ None → IsFromBefore before session history p b
before_law before session sound tells p b = legal_induction session (λ h. row_source session h p b ≡ None → IsFromBefore before session h p b)
    (λ none. inr (ap (λ (l : List Record). row_of l p b) (append-nil before), refl)) more
  where
    more : (history : List Entry) (e : Entry) → IsLegal session history → (row_source session history p b ≡ None → IsFromBefore before session history p b) → MayFollow session history e
        → row_source session (history ++ e ∷ []) p b ≡ None → IsFromBefore before session (history ++ e ∷ []) p b
    more history e legal was next none = by_change (changes session history e p) refl
      where
        from : source_after (touch p b (entry_records session history e)) (length history) (row_source session history p b) ≡ None
        from = sym (source-step session history e p b) ∙ none

        some_none : {k : ℕ} → Some k ≡ None → ⊥
        some_none h = absurd (cc)

        -- the entry leaves the row
        stayed : touch p b (entry_records session history e) ≡ stays
            → ((d : List ℕ) → row_of (before ++ records_of session history) p b ≡ Some d → range b (file_after session (history ++ e ∷ []) p) ≡ range b (file_after session history p))
            → IsFromBefore before session (history ++ e ∷ []) p b
        stayed touched same =
            let row : row_of (before ++ records_of session (history ++ e ∷ [])) p b ≡ row_of (before ++ records_of session history) p b =
            row-step session history e before p b ∙ ap (λ (t : Touch). row_after t (row_of (before ++ records_of session history) p b)) touched in
            by_row (row_of (before ++ records_of session history) p b) refl row
            (was (sym (ap (λ (t : Touch). source_after t (length history) (row_source session history p b)) touched) ∙ from))
          where
            by_row : (o : Option (List ℕ)) → row_of (before ++ records_of session history) p b ≡ o
                → row_of (before ++ records_of session (history ++ e ∷ [])) p b ≡ row_of (before ++ records_of session history) p b
                → IsFromBefore before session history p b → IsFromBefore before session (history ++ e ∷ []) p b
            by_row None is row past = inl (row ∙ is)
            by_row (Some d) is row past = ⊎_elim
                (λ (gone : row_of (before ++ records_of session history) p b ≡ None). inl (row ∙ gone))
                (λ (kept : (row_of (before ++ records_of session history) p b ≡ row_of before p b) × (range b (file_after session history p) ≡ range b (opening_bytes session.start p))).
                inr (row ∙ kept.0, same d is ∙ kept.1))
                past

        by_change : (t : Bool) → changes session history e p ≡ t → IsFromBefore before session (history ++ e ∷ []) p b
        by_change false kept =
            stayed (touch-step session history e p b ∙ ap (λ (t : Bool). if t then content_touch session history e b else stays) kept) (λ d is. ap (range b) (file-kept session history e p kept))
        by_change true changed =
            by_touch (nat_lt b 1024) (digested session history e p changed b) (nat_le (length (file_after session (history ++ e ∷ []) p)) (b * block_size)) refl refl refl
            (touch-changed session history e p changed b)
          where
            by_touch : (l d n : Bool) → nat_lt b 1024 ≡ l → digested session history e p changed b ≡ d → nat_le (length (file_after session (history ++ e ∷ []) p)) (b * block_size) ≡ n
                → touch p b (entry_records session history e) ≡ (if l && d then sets (md5 (range b (file_after session (history ++ e ∷ []) p))) else if n then goes else stays)
                → IsFromBefore before session (history ++ e ∷ []) p b
            by_touch true true n low is past touched = absurd (some_none (sym (ap (λ (t : Touch). source_after t (length history) (row_source session history p b)) touched) ∙ from))
            by_touch true false true low is past touched = inl (row-step session history e before p b ∙ ap (λ (t : Touch). row_after t (row_of (before ++ records_of session history) p b)) touched)
            by_touch true false false low is past touched =
                let inside : b * 4096 < length (file_after session (history ++ e ∷ []) p) = grind (arith, nat_tests, past) in
                stayed touched (λ d row. undigested-range session history e p changed b (sym (rowed before session sound tells p b history legal).same ∙ ap is_some row) is inside)
            by_touch false d true low is past touched = inl (row-step session history e before p b ∙ ap (λ (t : Touch). row_after t (row_of (before ++ records_of session history) p b)) touched)
            by_touch false d false low is past touched =
                absurd (let most = files_fit session sound (history ++ e ∷ []) (legal-push session history e legal next) p in let high = not_below b 1024 low in let inside : b * 4096 < length (file_after session (history ++ e ∷ []) p) = grind (arith, nat_tests, past) in omega arith)
