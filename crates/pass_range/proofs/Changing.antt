-- What one entry more does to the content of a file, and to the rows of its blocks.
use Rattle.std.proofs.Common.{◌≡◌, ◌∙◌, ◌⊎◌, ◌==◌, ◌&&◌, ◌||◌, ◌+◌, ◌-◌, ◌*◌, ◌<◌, ◌≤◌, ℕ, Bool, true, false, not, List, [], ◌∷◌, ◌++◌, length, take, drop, replicate, refl, sym, ap, subst, arith, inl, inr, append_assoc, length-append, length-take}
use Rattle.std.specs.Prelude.{None, nat_le, nat_lt, if◌then◌else◌}
use Rattle.std.specs.List.{list_any}
use Rattle.std.proofs.lemmas.Bool.Decides.{nat_tests}
use Rattle.std.proofs.lemmas.List.{length-replicate, append-nil}
use Rattle.md5.specs.Md5.{md5}
use Rattle.pass_entry.specs.declared.entry.Entry.{Entry}
use Rattle.pass_entry.specs.declared.entry.Act.{Act}
use Rattle.pass_entry.specs.declared.entry.Act.TheVariants as act
use Rattle.pass_entry.specs.declared.record.Record.{Record}
use Rattle.pass_plain.specs.Histories.{is_fault, own_step}
use Rattle.pass_plain.specs.Sessions.{Session, opening_bytes, opening_rows}
use Rattle.pass_plain.specs.Files.{file_after, file_act, written, extended}
use Rattle.pass_plain.specs.Records.{block_size, range_len, touches, row_act, has_row, is_written, is_digested, entry_records, records_of}
use Rattle.pass_plain.proofs.Replays.{replay-append, state_after-append, own_step-own, own_step-other, own_step-fault}
use Rattle.pass_plain.proofs.Lists.{true_left, true_right, not_true, not_false, or_false, same_numbers, below_is, not_below}
use Rattle.pass_plain.proofs.Sizes.{written_begins, length-resized}
use Rattle.pass_plain.proofs.KeptFiles.{quiet_bytes, quiet_row}
use Rattle.pass_range.specs.Places.{IsApart}
use Rattle.pass_range.specs.Rows.{range, row_of}
use Rattle.pass_range.specs.Sources.{stays, sets, goes, touch, row_after, source_after, row_source}
use Rattle.pass_range.proofs.LastRows.{row-append}
use Rattle.pass_range.proofs.Digested.{is_change, content_touch, entry_touch}
use Rattle.pass_range.proofs.Apart.{range_put, range_cut, length-range}

-- what each element at the end keeps holds of a list
snoc_from : (P : List Entry → Type 0) → ((xs : List Entry) (x : Entry) → P xs → P (xs ++ x ∷ [])) → (before rest : List Entry) → P before → P (before ++ rest)
snoc_from P more before [] holds = subst P (sym (append-nil before)) holds
snoc_from P more before (x ∷ rest) holds = subst P (append_assoc before (x ∷ []) rest) (snoc_from P more (before ++ x ∷ []) rest (more before x holds))

pub snoc_induction : (P : List Entry → Type 0) → P [] → ((xs : List Entry) (x : Entry) → P xs → P (xs ++ x ∷ [])) → (xs : List Entry) → P xs
snoc_induction P first more xs = snoc_from P more [] xs first

-- the acts

length-written : (old : List ℕ) (at : ℕ) (bytes : List ℕ) → 0 < length bytes → at + length bytes ≤ length (written old at bytes)
length-written old at [] some = absurd (omega (arith, some))
length-written old at (x ∷ xs) some =
    omega (
      arith,
      length-append (take at (extended old at) ++ x ∷ xs) (drop (at + length (x ∷ xs)) old),
      length-append (take at (extended old at)) (x ∷ xs),
      length-take at (extended old at),
      length-append old (replicate (at - length old) 0),
      length-replicate {A = ℕ} (at - length old) 0,
    )

-- a block of which no byte was written is apart from the write, or that had no bytes
apart_of : (at len b r : ℕ) → r ≤ 4096 → touches at len b ≡ false → (len ≡ 0) ⊎ IsApart (b * 4096) r at len
apart_of at len b r short e = by_tests (nat_lt 0 len) (nat_lt (b * 4096) (at + len)) (nat_lt at ((b + 1) * 4096)) refl refl refl e
  where
    by_tests : (s t u : Bool) → nat_lt 0 len ≡ s → nat_lt (b * 4096) (at + len) ≡ t → nat_lt at ((b + 1) * 4096) ≡ u → (s && t && u) ≡ false → (len ≡ 0) ⊎ IsApart (b * 4096) r at len
    by_tests false t u one two three e = inl (let z : len ≤ 0 = not_below 0 len one in omega arith)
    by_tests true false u one two three e = inr (inr (not_below (b * 4096) (at + len) two))
    by_tests true true false one two three e = inr (inl (let z : (b + 1) * 4096 ≤ at = not_below at ((b + 1) * 4096) three in omega (arith, short)))
    by_tests true true true one two three e = absurd (cc (e))

-- the range of a block that isn't written, begins within the file and keeps its length stays
unwritten_stays : (a : Act) (old : List ℕ) (b : ℕ) → is_change a ≡ true → is_written a b ≡ false → b * 4096 < length (file_act old a)
    → range_len (length old) b ≡ range_len (length (file_act old a)) b → range b (file_act old a) ≡ range b old
unwritten_stays (act.Put out at bytes) old b change e begins same =
    range_put b at old bytes (apart_of at (length bytes) b (length (range b old)) (let z = length-range b old in omega (arith, z)) e) (sym same)
unwritten_stays (act.Cut out size) old b change e begins same =
    range_cut b size old (omega (arith, begins, length-resized old size)) (sym (same ∙ ap (λ (n : ℕ). range_len n b) (length-resized old size)))
unwritten_stays a old b change e begins same = absurd (cc)

-- a block that has a row and begins within the file keeps it
row_kept : (a : Act) (old : List ℕ) (b : ℕ) → b * 4096 < length (file_act old a) → row_act b true a ≡ true
row_kept (act.Put out at bytes) old b begins = refl
row_kept (act.Cut out size) old b begins = let low : b * 4096 < size = omega (arith, begins, length-resized old size) in grind (arith, nat_tests, low)
row_kept a old b begins = refl

-- a block of which a byte was written has a row
row_written : (a : Act) (had : Bool) (b : ℕ) → is_written a b ≡ true → row_act b had a ≡ true
row_written (act.Put out at bytes) had b e = ap (λ (x : Bool). had || x) e ∙ any had
  where
    any : (x : Bool) → (x || true) ≡ true
    any true = refl
    any false = refl
row_written a had b e = absurd (cc)

-- one entry more
module _ (session : Session) (history : List Entry) (e : Entry) where
  pub records-next : records_of session (history ++ e ∷ []) ≡ records_of session history ++ entry_records session history e
  records-next = replay-append (λ past list e. list ++ entry_records session past e) [] [] history e

  pub list-next : (before : List Record) → before ++ records_of session (history ++ e ∷ []) ≡ (before ++ records_of session history) ++ entry_records session history e
  list-next before = ap (λ (l : List Record). before ++ l) records-next ∙ sym (append_assoc before (records_of session history) (entry_records session history e))

  pub row-step : (before : List Record) (p b : ℕ) → row_of (before ++ records_of session (history ++ e ∷ [])) p b ≡ row_after (touch p b (entry_records session history e)) (row_of (before ++ records_of session history) p b)
  row-step before p b = ap (λ (l : List Record). row_of l p b) (list-next before) ∙ row-append p b (before ++ records_of session history) (entry_records session history e)

  pub source-step : (p b : ℕ) → row_source session (history ++ e ∷ []) p b ≡ source_after (touch p b (entry_records session history e)) (length history) (row_source session history p b)
  source-step p b = replay-append (λ past source e. source_after (touch p b (entry_records session past e)) (length past) source) [] None history e

  file-step : (p : ℕ) → file_after session (history ++ e ∷ []) p ≡ own_step (λ past content e. file_act content e.act) p history (file_after session history p) e
  file-step p = state_after-append (λ past content e. file_act content e.act) p (opening_bytes session.start p) history e

  has-step : (p b : ℕ) → has_row session (history ++ e ∷ []) p b ≡ own_step (λ past had e. row_act b had e.act) p history (has_row session history p b) e
  has-step p b = state_after-append (λ past had e. row_act b had e.act) p (list_any (λ x. x == b) (opening_rows session.start p)) history e

  -- whether the entry changes the content of a file
  abbrev pub changes : ℕ → Bool
  changes p = (not (is_fault e.reply) && is_change e.act) && (e.what == p)

  pub touch-step : (p b : ℕ) → touch p b (entry_records session history e) ≡ (if changes p then content_touch session history e b else stays)
  touch-step p b = entry_touch p b session history e

  -- an entry that doesn't
  pub file-kept : (p : ℕ) → changes p ≡ false → file_after session (history ++ e ∷ []) p ≡ file_after session history p
  file-kept p same = file-step p ∙ by_tests (is_fault e.reply) (is_change e.act) (e.what == p) refl refl refl same
    where
      by_tests : (f c o : Bool) → is_fault e.reply ≡ f → is_change e.act ≡ c → (e.what == p) ≡ o → ((not f && c) && o) ≡ false
          → own_step (λ past content e. file_act content e.act) p history (file_after session history p) e ≡ file_after session history p
      by_tests true c o one two three none = own_step-fault (λ past content e. file_act content e.act) p history (file_after session history p) e one
      by_tests false c false one two three none = own_step-other (λ past content e. file_act content e.act) p history (file_after session history p) e three
      by_tests false false true one two three none =
          own_step-own (λ past content e. file_act content e.act) p history (file_after session history p) e three one ∙ quiet_bytes e.act (file_after session history p) two
      by_tests false true true one two three none = absurd (cc (none))

  pub has-kept : (p b : ℕ) → changes p ≡ false → has_row session (history ++ e ∷ []) p b ≡ has_row session history p b
  has-kept p b same = has-step p b ∙ by_tests (is_fault e.reply) (is_change e.act) (e.what == p) refl refl refl same
    where
      by_tests : (f c o : Bool) → is_fault e.reply ≡ f → is_change e.act ≡ c → (e.what == p) ≡ o → ((not f && c) && o) ≡ false
          → own_step (λ past had e. row_act b had e.act) p history (has_row session history p b) e ≡ has_row session history p b
      by_tests true c o one two three none = own_step-fault (λ past had e. row_act b had e.act) p history (has_row session history p b) e one
      by_tests false c false one two three none = own_step-other (λ past had e. row_act b had e.act) p history (has_row session history p b) e three
      by_tests false false true one two three none =
          own_step-own (λ past had e. row_act b had e.act) p history (has_row session history p b) e three one ∙ quiet_row e.act b (has_row session history p b) two
      by_tests false true true one two three none = absurd (cc (none))

  -- one that does
  module _ (p : ℕ) (changed : changes p ≡ true) where
    pub change-is : is_change e.act ≡ true
    change-is = true_right (not (is_fault e.reply)) (is_change e.act) (true_left (not (is_fault e.reply) && is_change e.act) (e.what == p) changed)

    no_fault : is_fault e.reply ≡ false
    no_fault = not_true (is_fault e.reply) (true_left (not (is_fault e.reply)) (is_change e.act) (true_left (not (is_fault e.reply) && is_change e.act) (e.what == p) changed))

    here : (e.what == p) ≡ true
    here = true_right (not (is_fault e.reply) && is_change e.act) (e.what == p) changed

    pub what-is : e.what ≡ p
    what-is = same_numbers e.what p here

    pub file-changed : file_after session (history ++ e ∷ []) p ≡ file_act (file_after session history p) e.act
    file-changed = file-step p ∙ own_step-own (λ past content e. file_act content e.act) p history (file_after session history p) e here no_fault

    pub has-changed : (b : ℕ) → has_row session (history ++ e ∷ []) p b ≡ row_act b (has_row session history p b) e.act
    has-changed b = has-step p b ∙ own_step-own (λ past had e. row_act b had e.act) p history (has_row session history p b) e here no_fault

    -- whether a block gets a digest, of the content before and after
    abbrev pub digested : ℕ → Bool
    digested b =
        is_written e.act b
        || (has_row session history p b && nat_lt (b * block_size) (length (file_after session (history ++ e ∷ []) p))
        && not (range_len (length (file_after session history p)) b == range_len (length (file_after session (history ++ e ∷ []) p)) b))

    digested-is : (b : ℕ) → is_digested session history e b ≡ digested b
    digested-is b =
        ap (λ (q : ℕ). is_written e.act b || (has_row session history q b && nat_lt (b * block_size) (length (file_act (file_after session history q) e.act))
        && not (range_len (length (file_after session history q)) b == range_len (length (file_act (file_after session history q) e.act)) b))) what-is
        ∙ ap (λ (l : List ℕ). is_written e.act b || (has_row session history p b && nat_lt (b * block_size) (length l) && not (range_len (length (file_after session history p)) b == range_len (length l) b))) (sym file-changed)

    pub touch-changed : (b : ℕ) → touch p b (entry_records session history e)
        ≡ (if nat_lt b 1024 && digested b then sets (md5 (range b (file_after session (history ++ e ∷ []) p))) else if nat_le (length (file_after session (history ++ e ∷ []) p)) (b * block_size) then goes else stays)
    touch-changed b =
        touch-step p b ∙ ap (λ (t : Bool). if t then content_touch session history e b else stays) changed
        ∙ ap (λ (q : ℕ). if nat_lt b 1024 && is_digested session history e b then sets (md5 (range b (file_act (file_after session history q) e.act))) else if nat_le (length (file_act (file_after session history q) e.act)) (b * block_size) then goes else stays) what-is
        ∙ ap (λ (l : List ℕ). if nat_lt b 1024 && is_digested session history e b then sets (md5 (range b l)) else if nat_le (length l) (b * block_size) then goes else stays) (sym file-changed)
        ∙ ap (λ (t : Bool). if nat_lt b 1024 && t then sets (md5 (range b (file_after session (history ++ e ∷ []) p))) else if nat_le (length (file_after session (history ++ e ∷ []) p)) (b * block_size) then goes else stays) (digested-is b)

    -- a block that gets a digest begins within the file and has a row
    pub digested-begins : (b : ℕ) → digested b ≡ true → b * 4096 < length (file_after session (history ++ e ∷ []) p)
    digested-begins b is = by_test (is_written e.act b) refl is
      where
        by_test : (t : Bool) → is_written e.act b ≡ t
            → (t || (has_row session history p b && nat_lt (b * block_size) (length (file_after session (history ++ e ∷ []) p))
            && not (range_len (length (file_after session history p)) b == range_len (length (file_after session (history ++ e ∷ []) p)) b))) ≡ true
            → b * 4096 < length (file_after session (history ++ e ∷ []) p)
        by_test true written is = subst (λ (l : List ℕ). b * 4096 < length l) (sym file-changed) (written_begins e.act (file_after session history p) b written)
        by_test false written is =
            below_is (b * 4096) (length (file_after session (history ++ e ∷ []) p)) (true_right (has_row session history p b) (nat_lt (b * block_size) (length (file_after session (history ++ e ∷ []) p)))
            (true_left (has_row session history p b && nat_lt (b * block_size) (length (file_after session (history ++ e ∷ []) p)))
            (not (range_len (length (file_after session history p)) b == range_len (length (file_after session (history ++ e ∷ []) p)) b)) is))

    pub kept-has : (b : ℕ) → has_row session history p b ≡ true → b * 4096 < length (file_after session (history ++ e ∷ []) p) → has_row session (history ++ e ∷ []) p b ≡ true
    kept-has b had begins = has-changed b ∙ ap (λ (h : Bool). row_act b h e.act) had ∙ row_kept e.act (file_after session history p) b (subst (λ (l : List ℕ). b * 4096 < length l) file-changed begins)

    pub digested-has : (b : ℕ) → digested b ≡ true → has_row session (history ++ e ∷ []) p b ≡ true
    digested-has b is = by_test (is_written e.act b) refl is
      where
        by_test : (t : Bool) → is_written e.act b ≡ t
            → (t || (has_row session history p b && nat_lt (b * block_size) (length (file_after session (history ++ e ∷ []) p))
            && not (range_len (length (file_after session history p)) b == range_len (length (file_after session (history ++ e ∷ []) p)) b))) ≡ true
            → has_row session (history ++ e ∷ []) p b ≡ true
        by_test true written is = has-changed b ∙ row_written e.act (has_row session history p b) b written
        by_test false written is =
            kept-has b (true_left (has_row session history p b) (nat_lt (b * block_size) (length (file_after session (history ++ e ∷ []) p)))
            (true_left (has_row session history p b && nat_lt (b * block_size) (length (file_after session (history ++ e ∷ []) p)))
            (not (range_len (length (file_after session history p)) b == range_len (length (file_after session (history ++ e ∷ []) p)) b)) is))
            (digested-begins b (ap (λ (t : Bool). t || (has_row session history p b && nat_lt (b * block_size) (length (file_after session (history ++ e ∷ []) p))
            && not (range_len (length (file_after session history p)) b == range_len (length (file_after session (history ++ e ∷ []) p)) b))) written ∙ is))

    -- a block with a row that gets no digest and begins within the file has the same range
    pub undigested-range : (b : ℕ) → has_row session history p b ≡ true → digested b ≡ false → b * 4096 < length (file_after session (history ++ e ∷ []) p)
        → range b (file_after session (history ++ e ∷ []) p) ≡ range b (file_after session history p)
    undigested-range b had none begins =
        let old = file_after session history p in
        let new = file_after session (history ++ e ∷ []) p in
        let parts = or_false (is_written e.act b) (has_row session history p b && nat_lt (b * block_size) (length new) && not (range_len (length old) b == range_len (length new) b)) none in
        let inside : nat_lt (b * block_size) (length new) ≡ true = grind (arith, nat_tests, begins) in
        let same : (range_len (length old) b == range_len (length new) b) ≡ true = not_false (range_len (length old) b == range_len (length new) b)
        (sym (ap (λ (x : Bool). x && nat_lt (b * block_size) (length new) && not (range_len (length old) b == range_len (length new) b)) had
        ∙ ap (λ (x : Bool). true && x && not (range_len (length old) b == range_len (length new) b)) inside) ∙ parts.1) in
        ap (range b) file-changed
        ∙ unwritten_stays e.act old b change-is parts.0 (subst (λ (l : List ℕ). b * 4096 < length l) file-changed begins)
        (same_numbers (range_len (length old) b) (range_len (length new) b) same ∙ ap (λ (l : List ℕ). range_len (length l) b) file-changed)
