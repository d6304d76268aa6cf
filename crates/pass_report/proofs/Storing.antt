-- The sizes and rows of files after one more entry.
use Rattle.std.proofs.Common.{◌≡◌, ◌<◌, ◌≤◌, ◌+◌, ◌*◌, ◌^◌, ◌==◌, ℕ, suc, List, [], ◌∷◌, ◌++◌, length, take, map, refl, ap, sym, subst, ◌∙◌, arith, Bool, true, false, ◌&&◌, ◌||◌, not, length-append}
use Rattle.std.specs.Prelude.{drop, filter, max, nat_lt, if◌then◌else◌}
use Rattle.std.specs.Option.{option_map_or}
use Rattle.std.specs.List.{range_with_len, list_any}
use Rattle.std.proofs.lemmas.List.{length-take, length-drop, length-map}
use Rattle.pass_entry.specs.declared.entry.Entry.{Entry}
use Rattle.pass_entry.specs.declared.entry.Act.{Act}
use Rattle.pass_entry.specs.declared.entry.Act.TheVariants as act
use Rattle.pass_entry.specs.declared.record.Record.{Record}
use Rattle.pass_entry.specs.declared.record.Record.TheVariants as log
use Rattle.std.proofs.lemmas.Bool.Decides.{nat_tests}
use Rattle.pass_plain.specs.declared.start.Start.{Start}
use Rattle.pass_plain.specs.Histories.{is_fault}
use Rattle.pass_plain.specs.Sessions.{Session, opening_size, opening_rows, opening_bytes}
use Rattle.pass_plain.specs.Sound.{IsSound}
use Rattle.pass_plain.specs.Files.{file_after, file_act, written, extended}
use Rattle.pass_plain.specs.Records.{is_written, touches, range_len, row_act, has_row, is_digested, content_records, digest_of}
use Rattle.pass_plain.proofs.Lists.{same_numbers}
use Rattle.pass_plain.proofs.Replays.{state_after-append, own_step-own, own_step-other, own_step-fault}
use Rattle.pass_report.specs.declared.files.Files.{Files}
use Rattle.pass_plain.specs.Histories.{call_entries}
use Rattle.pass_plain.specs.Calls.{call_steps}
use Rattle.pass_plain.specs.Legal.{before_call}
use Rattle.pass_plain.proofs.Rows.{Row}
use Rattle.pass_plain.proofs.Calling.{row}
use Rattle.pass_plain.proofs.Sizes.{length-resized, length-extended}
use Rattle.pass_plain.specs.Outlines.{SameButBytes}
use Rattle.pass_report.specs.Passing.{IsNext}
use Rattle.pass_report.specs.Digests.{passing, put_size, gets_digest, row_at}
use Rattle.pass_report.specs.Contents.{size_in, row_in, IsSameFile, AreFiles, content_count}
use Rattle.pass_report.proofs.Digesting.{passing-same}
use Rattle.pass_report.proofs.Filling.{nothing_in}
use Rattle.pass_report.proofs.Openings.{same_size, same_rows, opening_sized}

put_size-some : (size at n : ℕ) → put_size size at (suc n) ≡ max size (at + suc n)
put_size-some size at n =
    let some : (suc n == 0) ≡ false = grind (arith, nat_tests) in
    ap (λ b. if b then size else max size (at + suc n)) some

pub length-written : (content : List ℕ) (at : ℕ) (bytes : List ℕ) → length (written content at bytes) ≡ put_size (length content) at (length bytes)
length-written content at [] = refl
length-written content at (b ∷ bytes) =
    let front = length-take at (extended content at) in
    let wide = length-extended content at in
    let tail = length-drop (at + length (b ∷ bytes)) content in
    let all : length (written content at (b ∷ bytes)) ≡ length (take at (extended content at) ++ (b ∷ bytes)) + length (drop (at + length (b ∷ bytes)) content) =
    length-append (take at (extended content at) ++ (b ∷ bytes)) (drop (at + length (b ∷ bytes)) content) in
    let rest = length-append (take at (extended content at)) (b ∷ bytes) in
    let most : length (written content at (b ∷ bytes)) ≡ max (length content) (at + suc (length bytes)) = omega (arith, front, wide, tail, all, rest) in
    most ∙ sym (put_size-some (length content) at (length bytes))

-- as many digests, where sizes and rows agree
pub same_digests : (had held : ℕ → Bool) (old size at len new now n : ℕ) → ((block : ℕ) → block < n → had block ≡ held block) → old ≡ size → new ≡ now
    → passing (gets_digest had old at len new) n ≡ passing (gets_digest held size at len now) n
same_digests had held old size at len new now n rows olds news =
    passing-same (gets_digest had old at len new) (gets_digest held size at len now) n (λ k low i.
    touches at len k || (rows k low i && nat_lt (k * 4096) (news i) && not (range_len (olds i) k == range_len (news i) k)))

length-content : (x : Record) (f : ℕ → Record) (test : ℕ → Bool) (n : ℕ) → length (x ∷ map f (filter test (range_with_len 0 n))) ≡ 1 + passing test n
unfolding passing
length-content x f test n =
    let same = length-map (filter test (range_with_len 0 n)) f in
    omega (arith, same)

pub length-content_records : (session : Session) (past : List Entry) (e : Entry) → length (content_records session past e) ≡ 1 + passing (is_digested session past e) 1024
length-content_records session past e =
    length-content (log.Size e.what (length (file_act (file_after session past e.what) e.act))) (digest_of e.what (file_act (file_after session past e.what) e.act)) (is_digested session past e) 1024

module _ (start : Start) (session : Session) (past : List Entry) (e : Entry) where
  file_step : (file : ℕ) (size n : ℕ) → (b : Bool) → (e.what == file) ≡ b → ((e.what == file) ≡ false → size ≡ length (file_after session past file))
      → ((e.what == file) ≡ true → is_fault e.reply ≡ false → size ≡ length (file_act (file_after session past file) e.act))
      → is_fault e.reply ≡ false → size ≡ length (file_after session (past ++ e ∷ []) file)
  file_step file size n true is other own fine =
      own is fine ∙ sym (ap length (state_after-append (λ past content e. file_act content e.act) file (opening_bytes session.start file) past e
      ∙ own_step-own (λ past content e. file_act content e.act) file past (file_after session past file) e is fine))
  file_step file size n false is other own fine =
      other is ∙ sym (ap length (state_after-append (λ past content e. file_act content e.act) file (opening_bytes session.start file) past e
      ∙ own_step-other (λ past content e. file_act content e.act) file past (file_after session past file) e is))

  row_step : (file block : ℕ) (had : Bool) → (b : Bool) → (e.what == file) ≡ b → ((e.what == file) ≡ false → had ≡ has_row session past file block)
      → ((e.what == file) ≡ true → is_fault e.reply ≡ false → had ≡ row_act block (has_row session past file block) e.act)
      → is_fault e.reply ≡ false → had ≡ has_row session (past ++ e ∷ []) file block
  row_step file block had true is other own fine =
      own is fine ∙ sym (state_after-append (λ past had e. row_act block had e.act) file (list_any (λ b. b == block) (opening_rows session.start file)) past e
      ∙ own_step-own (λ past had e. row_act block had e.act) file past (has_row session past file block) e is fine)
  row_step file block had false is other own fine =
      other is ∙ sym (state_after-append (λ past had e. row_act block had e.act) file (list_any (λ b. b == block) (opening_rows session.start file)) past e
      ∙ own_step-other (λ past had e. row_act block had e.act) file past (has_row session past file block) e is)

  -- a fault changes no file
  pub faulted_files : (f : Files) → is_fault e.reply ≡ true → AreFiles start session past f → AreFiles start session (past ++ e ∷ []) f
  faulted_files f fault files = record {
    sizes = λ file. files.sizes file ∙ sym (ap length (state_after-append (λ past content e. file_act content e.act) file (opening_bytes session.start file) past e
        ∙ own_step-fault (λ past content e. file_act content e.act) file past (file_after session past file) e fault));
    rows = λ file block low. files.rows file block low
        ∙ sym (state_after-append (λ past had e. row_act block had e.act) file (list_any (λ b. b == block) (opening_rows session.start file)) past e
        ∙ own_step-fault (λ past had e. row_act block had e.act) file past (has_row session past file block) e fault);
  }

  -- the entry's own file is changed, and no other
  pub changed_files : (f g : Files) → is_fault e.reply ≡ false → AreFiles start session past f
      → ((q : ℕ) → (e.what == q) ≡ false → IsSameFile start f g q)
      → size_in start g e.what ≡ length (file_act (file_after session past e.what) e.act)
      → ((block : ℕ) → block < 1024 → row_in start g e.what block ≡ row_act block (has_row session past e.what block) e.act)
      → AreFiles start session (past ++ e ∷ []) g
  changed_files f g fine files others size rows = record {
    sizes = λ file. file_step file (size_in start g file) 0 (e.what == file) refl
        (λ other. (others file other).size ∙ files.sizes file)
        (λ own fine. subst (λ q. size_in start g q ≡ length (file_act (file_after session past q) e.act)) (same_numbers e.what file own) size) fine;
    rows = λ file block low. row_step file block (row_in start g file block) (e.what == file) refl
        (λ other. (others file other).rows block low ∙ files.rows file block low)
        (λ own fine. subst (λ q. row_in start g q block ≡ row_act block (has_row session past q block) e.act) (same_numbers e.what file own) (rows block low)) fine;
  }

  module _ (f g : Files) (fine : is_fault e.reply ≡ false) (files : AreFiles start session past f) where
    pub put_files : (out at : ℕ) (bytes : List ℕ) → e.act ≡ act.Put out at bytes
        → ((q : ℕ) → (e.what == q) ≡ false → IsSameFile start f g q)
        → size_in start g e.what ≡ put_size (size_in start f e.what) at (length bytes)
        → ((block : ℕ) → block < 1024 → row_in start g e.what block ≡ (row_in start f e.what block || touches at (length bytes) block))
        → AreFiles start session (past ++ e ∷ []) g
    put_files out at bytes is others size rows =
        changed_files f g fine files others
        (size ∙ ap (λ n. put_size n at (length bytes)) (files.sizes e.what) ∙ sym (length-written (file_after session past e.what) at bytes)
        ∙ sym (ap (λ a. length (file_act (file_after session past e.what) a)) is))
        (λ block low. rows block low ∙ ap (λ b. b || touches at (length bytes) block) (files.rows e.what block low)
        ∙ sym (ap (λ a. row_act block (has_row session past e.what block) a) is))

    pub cut_files : (out size : ℕ) → e.act ≡ act.Cut out size
        → ((q : ℕ) → (e.what == q) ≡ false → IsSameFile start f g q)
        → size_in start g e.what ≡ size
        → ((block : ℕ) → block < 1024 → row_in start g e.what block ≡ (row_in start f e.what block && nat_lt (block * 4096) size))
        → AreFiles start session (past ++ e ∷ []) g
    cut_files out size is others sized rows =
        changed_files f g fine files others
        (sized ∙ sym (length-resized (file_after session past e.what) size) ∙ sym (ap (λ a. length (file_act (file_after session past e.what) a)) is))
        (λ block low. rows block low ∙ ap (λ b. b && nat_lt (block * 4096) size) (files.rows e.what block low)
        ∙ sym (ap (λ a. row_act block (has_row session past e.what block) a) is))

    -- the digests are those of the records, where it is said which blocks are written and what the new size is
    digests_of : (at len new n : ℕ) → n ≤ 1024 → ((block : ℕ) → is_written e.act block ≡ touches at len block)
        → new ≡ length (file_act (file_after session past e.what) e.act)
        → passing (gets_digest (row_in start f e.what) (size_in start f e.what) at len new) n ≡ passing (is_digested session past e) n
    digests_of at len new n few writes size =
        passing-same (gets_digest (row_in start f e.what) (size_in start f e.what) at len new) (is_digested session past e) n (λ k low i.
        sym (writes k) i || (files.rows e.what k (omega (arith, low, few)) i && nat_lt (k * 4096) (size i) && not (range_len (files.sizes e.what i) k == range_len (size i) k)))

    pub put_count : (out at : ℕ) (bytes : List ℕ) → e.act ≡ act.Put out at bytes
        → 1 + passing (gets_digest (row_in start f e.what) (size_in start f e.what) at (length bytes) (put_size (size_in start f e.what) at (length bytes))) 1024
        ≡ content_count session past e e.act
    put_count out at bytes is =
        let counted = digests_of at (length bytes) (put_size (size_in start f e.what) at (length bytes)) 1024 (omega arith)
        (λ block. ap (λ a. is_written a block) is)
        (ap (λ n. put_size n at (length bytes)) (files.sizes e.what) ∙ sym (length-written (file_after session past e.what) at bytes)
        ∙ sym (ap (λ a. length (file_act (file_after session past e.what) a)) is)) in
        ap (λ n. 1 + n) counted ∙ sym (length-content_records session past e) ∙ sym (ap (λ a. content_count session past e a) is)

    pub cut_count : (out size : ℕ) → e.act ≡ act.Cut out size
        → 1 + passing (gets_digest (row_in start f e.what) (size_in start f e.what) 0 0 size) 1024 ≡ content_count session past e e.act
    cut_count out size is =
        let counted = digests_of 0 0 size 1024 (omega arith)
        (λ block. ap (λ a. is_written a block) is)
        (sym (length-resized (file_after session past e.what) size) ∙ sym (ap (λ a. length (file_act (file_after session past e.what) a)) is)) in
        ap (λ n. 1 + n) counted ∙ sym (length-content_records session past e) ∙ sym (ap (λ a. content_count session past e a) is)

  -- an act that changes no content
  pub idle_files : (f : Files) → is_fault e.reply ≡ false → AreFiles start session past f
      → ((content : List ℕ) → file_act content e.act ≡ content) → ((block : ℕ) (had : Bool) → row_act block had e.act ≡ had) → AreFiles start session (past ++ e ∷ []) f
  idle_files f fine files content row =
      changed_files f f fine files (λ q other. record { size = refl; rows = λ block low. refl })
      (files.sizes e.what ∙ sym (ap length (content (file_after session past e.what))))
      (λ block low. files.rows e.what block low ∙ sym (row block (has_row session past e.what block)))

-- before the first entry, in a session whose start has the bytes of its files
pub opening_files : (start : Start) (session : Session) → SameButBytes start session.start → IsSound session → (f : Files) → f.files.entries ≡ [] → AreFiles start session [] f
opening_files start session same sound f empty = record {
  sizes = λ file.
      ap (λ o. option_map_or (λ b. b.size) o (opening_size start file)) (nothing_in f.files empty file) ∙ same_size start session.start same file
      ∙ opening_sized session sound file;
  rows = λ file block low.
      ap (λ o. option_map_or (λ b. row_at b.rows.items block) o (list_any (λ x. x == block) (opening_rows start file))) (nothing_in f.files empty file)
      ∙ ap (list_any (λ x. x == block)) (same_rows start session.start same file);
}

-- an act that neither writes nor cuts
record IsSteady (a : Act) : Type 0 where
  content : (content : List ℕ) → file_act content a ≡ content
  row : (block : ℕ) (had : Bool) → row_act block had a ≡ had
  count : (session : Session) (past : List Entry) (e : Entry) → 0 ≡ content_count session past e a

steady : (a : Act) → ((out at : ℕ) (bytes : List ℕ) → a ≡ act.Put out at bytes → ⊥) → ((out size : ℕ) → a ≡ act.Cut out size → ⊥) → IsSteady a
steady (act.Put out at bytes) other cut = absurd (other out at bytes refl)
steady (act.Cut out size) other cut = absurd (cut out size refl)
steady _ other cut = record { content = λ content. refl; row = λ block had. refl; count = λ session past e. refl }

-- a write stays within the limit of a file
pub put_fits : (start : Start) (session : Session) (past : List Entry) (e : Entry) → IsNext start session past e
    → (out at : ℕ) (bytes : List ℕ) → e.act ≡ act.Put out at bytes → at + length bytes < 2 ^ 63
put_fits start session past e known out at bytes is =
    let r = row session past e known.legal known.next in
    let fits = (subst (λ a. Row e.who (before_call past e.who e.number) (call_entries past e.who e.number)
    (call_steps e.who (before_call past e.who e.number) (call_entries past e.who e.number) known.next.step.request) (length (call_entries past e.who e.number)) e.what a) is r).2 in
    omega (arith, fits)

pub idle_note : (start : Start) (session : Session) (past : List Entry) (e : Entry) (f : Files) → is_fault e.reply ≡ false
    → ((out at : ℕ) (bytes : List ℕ) → e.act ≡ act.Put out at bytes → ⊥) → ((out size : ℕ) → e.act ≡ act.Cut out size → ⊥)
    → AreFiles start session past f → AreFiles start session (past ++ e ∷ []) f × (0 ≡ content_count session past e e.act)
idle_note start session past e f fine other cut files =
    let s = steady e.act other cut in
    (idle_files start session past e f fine files s.content s.row, s.count session past e)
