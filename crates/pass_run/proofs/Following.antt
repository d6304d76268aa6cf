-- A run that follows another one over the same disk.
use Rattle.std.proofs.Common.{◌≡◌, ◌≤◌, ◌<◌, ◌+◌, ◌*◌, ◌⊎◌, ℕ, true, List, [], length, take, refl, ap, sym, subst, ◌∙◌, ⊎_elim, arith}
use Rattle.std.specs.Prelude.{Option, Some, None, IsTrue, is_some, option_map, slice_get}
use Rattle.std.specs.Option.{option_map_or}
use Rattle.std.proofs.lemmas.List.{take_all}
use Rattle.pass_entry.specs.declared.entry.Entry.{Entry}
use Rattle.pass_entry.specs.declared.record.Record.{Record}
use Rattle.pass_entry.proofs.Places.{mapped, slice_get-last}
use Rattle.pass_entry.proofs.Variants.{ok_inside, some_of}
use Rattle.pass_keep.specs.Kept.{Story, IsStory, HasRecords, AreOlder, list_to, source_to, records_to}
use Rattle.pass_keep.proofs.Keeping.{one_list}
use Rattle.pass_keep.proofs.Stories.{source_below}
use Rattle.pass_log.specs.Records.{Held, image_of}
use Rattle.pass_outside.specs.Areas.{Image}
use Rattle.pass_outside.specs.Moments.{Moment}
use Rattle.pass_plain.specs.declared.start.StartFile.{StartFile}
use Rattle.pass_plain.specs.Files.{file_after}
use Rattle.pass_plain.specs.Records.{has_row, list_of, range_len}
use Rattle.pass_plain.specs.Sessions.{opened_file, opening_bytes}
use Rattle.pass_plain.specs.WellLogged.{IsWellLogged, size_of, ceiling_of}
use Rattle.pass_plain.specs.Ceilings.{ceilings_between, raised}
use Rattle.pass_plain.proofs.Lists.{some_is}
use Rattle.pass_range.specs.Lawful.{IsOpened}
use Rattle.pass_range.specs.Places.{place, found_there, Holds}
use Rattle.md5.specs.Md5.{md5}
use Rattle.pass_range.specs.Rows.{range, row_of, files_of, number_of, IsUnmatched}
use Rattle.pass_range.specs.declared.range.Range.{Range}
use Rattle.pass_range.proofs.Older.{stands_found}
use Rattle.pass_range.specs.Sources.{row_source}
use Rattle.pass_range.proofs.Apart.{length-range}
use Rattle.pass_range.proofs.Proved.{before_proved, files_proved, has_row_proved, logged_row_proved, numbers_proved, opened_proved, size_proved}
use Rattle.pass_recover.specs.declared.fault.OpenFault.{OpenFault}
use Rattle.pass_recover.specs.Faults.{LogHas, image_fault}
use Rattle.pass_recover.proofs.Elements.{in_mapped}
use Rattle.pass_recover.proofs.RowRead.{number-at}
use Rattle.pass_session.specs.Judgements.{end_fault, fault_or}
use Rattle.pass_session.proofs.Sought.{file_found}
use Rattle.pass_vault.proofs.Numbering.{number_from, number_to}
use Rattle.pass_run.specs.Stored.{IsListOf, IsSettledRun}
use Rattle.pass_run.specs.Successive.{EndedRun, HasFollowed, IsReached, IsReopened, IsReopenedWhole, list_behind, story_of_run}
use Rattle.pass_run.proofs.Reached.{held_within, older_holds, older_within, opened_one}

-- a crash now leaves all its records
pub all_left : {D : Type 0} (view : D → Moment) (old new : D) (run : EndedRun view old new) → IsTrue (view new).tells
    → ((t : ℕ) (c : Image) → t ≤ (view new).calls → (view new).may_leave c → (view new).left_since t c) → (c : Image) → (view new).may_leave c → HasRecords (list_behind run) c.log
all_left view old new run told now c left =
    let settled = run.ended.settled in
    let place : ℕ = length settled.front in
    let at : slice_get run.syncs place ≡ Some settled.last = ap (λ l. slice_get l place) settled.are ∙ slice_get-last settled.front settled.last in
    settled.records told c (now settled.last.calls c (run.ended.stored.timed.earlier place settled.last at) left)

-- and what is read is opened
pub opened_next : (m : Moment) (list next : List Record) → IsTrue m.tells → HasRecords list m.seen.log → LogHas m (IsListOf next) → next ≡ list
opened_next m list next told records (bytes, read, listed) =
    sym listed.list_is ∙ ap (λ (h : Held). h.list) (ok_inside listed.held (record { list = list; end = records.place }) (sym listed.image ∙ ap image_of (read told) ∙ records.is))

-- a list over which a session begins has no flaw
unflawed : (list : List Record) (bytes : List ℕ) → IsListOf list bytes → IsWellLogged list
unflawed list bytes listed =
    subst IsWellLogged listed.list_is
    (none_inside _ _ (sym (ap image_fault listed.image) ∙ none_before (image_fault (image_of bytes)) (end_fault (image_of bytes)) listed.unfaulted))
  where
    none_before : (a b : Option OpenFault) → fault_or a b ≡ None → a ≡ None
    none_before None b is = refl
    none_before (Some fault) b is = absurd (cc)

    none_inside : {X Y : Type 0} (f : X → Y) (o : Option X) → option_map f o ≡ None → o ≡ None
    none_inside f None is = refl
    none_inside f (Some x) is = absurd (cc)

-- The data behind a run

module _ {D : Type 0} (view : D → Moment) (first second : D) (one : EndedRun view first second) (told : IsTrue (view second).tells)
    (now : (t : ℕ) (c : Image) → t ≤ (view second).calls → (view second).may_leave c → (view second).left_since t c) (c : Image) (read : (view second).may_leave c) where
  abbrev s : Story
  s = story_of_run one

  abbrev n : ℕ
  n = length s.history

  abbrev settled : IsSettledRun s (view second) one.syncs
  settled = one.ended.settled

  story : IsStory s
  story = record { sound = one.ended.recorded.sound; tells = one.ended.opening.files; legal = one.ended.recorded.run.legal }

  left : (view second).left_since settled.last.calls c
  left =
      let place : ℕ = length settled.front in
      now settled.last.calls c (one.ended.stored.timed.earlier place settled.last (ap (λ l. slice_get l place) settled.are ∙ slice_get-last settled.front settled.last)) read

  whole : take n s.history ≡ s.history
  whole = take_all n s.history (omega arith)

  -- the list behind it, by its whole history
  list_whole : list_to s n ≡ list_of s.before s.ceiling s.session s.history
  list_whole = ap (list_of s.before s.ceiling s.session) whole

  -- a row of one of its entries is on the store area
  source_holds : (p block number at : ℕ) → number_of (list_to s n) p ≡ Some number → source_to s n p block ≡ Some at → Holds (place number block) (range block (file_after s.session s.history p)) c.store
  source_holds p block number at numbered source =
      subst (λ (h : List Entry). Holds (place number block) (range block (file_after s.session h p)) c.store) whole
      (settled.held (record { pnode = p; number = number }) (number_from s story p number numbered) told c left block at source (source_below s n p block at (omega arith) source)).0

  -- what of a block isn't of its entries, is from before
  abbrev IsEarlier : ℕ → ℕ → Type 0
  IsEarlier p block = (row_of (list_to s n) p block ≡ row_of s.before p block) × (range block (file_after s.session s.history p) ≡ range block (opening_bytes s.session.start p))

  earlier : (p block : ℕ) → source_to s n p block ≡ None → is_some (row_of (list_to s n) p block) ≡ true → IsEarlier p block
  earlier p block none row =
      ⊎_elim
      (λ (gone : row_of (list_of s.before s.ceiling s.session s.history) p block ≡ None). absurd (no_row (row_of (list_to s n) p block) (ap (λ (l : List Record). row_of l p block) list_whole ∙ gone) row))
      (λ (kept : (row_of (list_of s.before s.ceiling s.session s.history) p block ≡ row_of s.before p block) × (range block (file_after s.session s.history p) ≡ range block (opening_bytes s.session.start p))).
      (ap (λ (l : List Record). row_of l p block) list_whole ∙ kept.0, kept.1))
      (before_proved s.before s.ceiling s.session story.sound story.tells s.history story.legal p block (ap (λ (h : List Entry). row_source s.session h p block) (sym whole) ∙ none))
    where
      no_row : (o : Option (List ℕ)) → o ≡ None → is_some o ≡ true → ⊥
      no_row None is some = absurd (cc)
      no_row (Some d) is some = absurd (cc)

  -- its file had the same number then
  same_number : (p block number : ℕ) → number_of (list_to s n) p ≡ Some number → is_some (row_of s.before p block) ≡ true → number_of s.before p ≡ Some number
  same_number p block number numbered row =
      let (bytes, has, listed) = one.ended.opening.logged in
      let (m, is) = some_of (number_of s.before p) (logged_row_proved s.before (unflawed s.before bytes listed) p block row).0 in
      let opened : number_of (raised s.before s.ceiling) p ≡ Some m = (numbers_proved s.before p m is).0 (ceilings_between (ceiling_of s.before) s.ceiling) in
      let later : number_of (list_to s n) p ≡ Some m = (numbers_proved (raised s.before s.ceiling) p m opened).0 (records_to s n) in
      is ∙ ap (λ (k : ℕ). Some k) (some_is m number (sym later ∙ numbered))

  -- the file of that number was opened
  opened_at : (p number : ℕ) → number_of s.before p ≡ Some number
      → (file : StartFile) × (slice_get s.session.start.files.items number ≡ Some file) × (file.node.pnode ≡ p) × (opened_file s.session.start p ≡ Some file)
  opened_at p number numbered =
      let (file, at, named) = mapped (λ (f : StartFile). f.node.pnode) s.session.start.files.items number p
      (ap (λ (l : List ℕ). slice_get l number) (sym story.tells.files) ∙ number-at s.before p number numbered) in
      (file, at, named, ap (opened_file s.session.start) (sym named) ∙ file_found s.session story.sound number file at)

  size_before : (p number : ℕ) → number_of s.before p ≡ Some number → size_of s.before p ≡ length (opening_bytes s.session.start p)
  size_before p number numbered =
      let (file, at, named, found) = opened_at p number numbered in
      story.tells.sizes p ∙ ap (λ (o : Option StartFile). option_map_or (λ f. f.size) o 0) found ∙ (story.sound.files number file at).sized
      ∙ sym (ap (λ (o : Option StartFile). length (option_map_or (λ f. f.bytes.items) o [])) found)

  -- and the area that was found had its bytes
  found_before : (p block number : ℕ) → IsTrue (view first).tells → number_of s.before p ≡ Some number → is_some (row_of s.before p block) ≡ true
      → range block (opening_bytes s.session.start p) ≡ found_there (place number block) (range_len (size_of s.before p) block) s.store
  found_before p block number tells numbered row =
      let (file, at, named, found) = opened_at p number numbered in
      ap (λ (o : Option StartFile). range block (option_map_or (λ f. f.bytes.items) o [])) found
      ∙ one.ended.opening.bytes tells number file at block (ap (λ (q : ℕ). is_some (row_of s.before q block)) named ∙ row)
      ∙ ap (λ (q : ℕ). found_there (place number block) (range_len (size_of s.before q) block) s.store) named

  few : (size block : ℕ) → range_len size block ≤ 4096
  few size block = omega arith

  older : AreOlder s n c.store
  older = settled.older told c left

  -- a row from before is on the store area too
  older_too : (p block number : ℕ) → IsTrue (view first).tells → IsReached s.before s.store → number_of (list_to s n) p ≡ Some number → source_to s n p block ≡ None
      → is_some (row_of (list_to s n) p block) ≡ true → Holds (place number block) (range block (file_after s.session s.history p)) c.store
  older_too p block number tells reached numbered none row =
      let was = earlier p block none row in
      let had : is_some (row_of s.before p block) ≡ true = ap is_some (sym was.0) ∙ row in
      let known = same_number p block number numbered had in
      subst (λ (l : List ℕ). Holds (place number block) l c.store) (sym (was.1 ∙ found_before p block number tells known had))
      (older_holds (place number block) (range_len (size_of s.before p) block) s.store c.store (older p block number row none numbered) (few (size_of s.before p) block) (reached p block number had known))

  row_is : (p block : ℕ) → is_some (row_of (list_to s n) p block) ≡ has_row s.session s.history p block
  row_is p block = ap (λ (l : List Record). is_some (row_of l p block)) list_whole ∙ (has_row_proved s.before s.ceiling s.session story.sound story.tells s.history story.legal p block).0

  begins : (p block : ℕ) → is_some (row_of (list_to s n) p block) ≡ true → block * 4096 < length (file_after s.session s.history p)
  begins p block row = (has_row_proved s.before s.ceiling s.session story.sound story.tells s.history story.legal p block).1 (sym (row_is p block) ∙ row)

  -- so each file opens with what it had
  opens : IsTrue (view first).tells → IsReached s.before s.store → (p number : ℕ) → number_of (list_to s n) p ≡ Some number → IsOpened (list_to s n) c.store p (file_after s.session s.history p)
  opens tells reached p number numbered =
      subst (λ (l : List Record). IsOpened l c.store p (file_after s.session s.history p)) (sym list_whole)
      (opened_proved s.before s.ceiling s.session story.sound story.tells s.history story.legal p number (ap (λ (l : List Record). number_of l p) (sym list_whole) ∙ numbered) c.store
      (λ block has. by_source block (row_is p block ∙ has) (source_to s n p block) refl))
    where
      by_source : (block : ℕ) → is_some (row_of (list_to s n) p block) ≡ true → (o : Option ℕ) → source_to s n p block ≡ o → Holds (place number block) (range block (file_after s.session s.history p)) c.store
      by_source block row (Some at) source = source_holds p block number at numbered source
      by_source block row None source = older_too p block number tells reached numbered source row

  size_is : (p : ℕ) → size_of (list_to s n) p ≡ length (file_after s.session s.history p)
  size_is p = ap (λ (l : List Record). size_of l p) list_whole ∙ size_proved s.before s.ceiling s.session story.sound story.tells s.history p

  -- and the store area reaches to the end of each of their ranges
  reaches : IsReached s.before s.store → IsReached (list_to s n) c.store
  reaches reached = λ p block number row numbered. by_source p block number row numbered (source_to s n p block) refl
    where
      by_source : (p block number : ℕ) → is_some (row_of (list_to s n) p block) ≡ true → number_of (list_to s n) p ≡ Some number → (o : Option ℕ) → source_to s n p block ≡ o
          → place number block + range_len (size_of (list_to s n) p) block ≤ length c.store
      by_source p block number row numbered (Some at) source =
          let long = length-range block (file_after s.session s.history p) in
          let size = size_is p in
          let low = begins p block row in
          let some : 0 < range_len (length (file_after s.session s.history p)) block = omega (arith, low) in
          let all = held_within (place number block) (range block (file_after s.session s.history p)) c.store (omega (arith, long, some)) (source_holds p block number at numbered source) in
          let same = ap (λ (k : ℕ). range_len k block) size in
          omega (arith, all, long, same)
      by_source p block number row numbered None source =
          let was = earlier p block source row in
          let had : is_some (row_of s.before p block) ≡ true = ap is_some (sym was.0) ∙ row in
          let known = same_number p block number numbered had in
          let old_size = size_before p number known in
          let low = begins p block row in
          let long = sym (length-range block (file_after s.session s.history p)) ∙ ap length was.1 ∙ length-range block (opening_bytes s.session.start p) in
          let before = ap (λ (k : ℕ). range_len k block) old_size in
          let after = ap (λ (k : ℕ). range_len k block) (size_is p) in
          let some : 0 < range_len (length (file_after s.session s.history p)) block = omega (arith, low) in
          let all = older_within (place number block) (range_len (size_of s.before p) block) s.store c.store (older p block number row source numbered) (few (size_of s.before p) block) (reached p block number had known)
          (omega (arith, some, long, before)) in
          omega (arith, all, long, before, after)

  -- A store that reads what a crash left now

  module _ (list : List Record) (unmatched : List Range) (is : IsReopened c list unmatched) where
    list_is : list ≡ list_to s n
    list_is = one_list list (list_to s n) c.log is.records (settled.records told c left)

    -- lists no range but those that the run found so
    still_unmatched : IsReached s.before s.store → (p block : ℕ) → IsUnmatched (list_to s n) c.store p block → IsUnmatched s.before s.store p block
    still_unmatched reached p block un = by_source (source_to s n p block) refl
      where
        row : is_some (row_of (list_to s n) p block) ≡ true
        row = ap is_some un.row

        by_source : (o : Option ℕ) → source_to s n p block ≡ o → IsUnmatched s.before s.store p block
        by_source (Some at) source = absurd (settled.matched told c left p block at source un)
        by_source None source =
            let was = earlier p block source row in
            let had : is_some (row_of s.before p block) ≡ true = ap is_some (sym was.0) ∙ row in
            let known = same_number p block un.number un.numbered had in
            let stands = stands_found (place un.number block) (range_len (size_of s.before p) block) s.store c.store (older p block un.number row source un.numbered) (few (size_of s.before p) block) (reached p block un.number had known) in
            let long = sym (length-range block (file_after s.session s.history p)) ∙ ap length was.1 ∙ length-range block (opening_bytes s.session.start p) in
            let same : range_len (size_of (list_to s n) p) block ≡ range_len (size_of s.before p) block =
            ap (λ (k : ℕ). range_len k block) (size_is p) ∙ long ∙ sym (ap (λ (k : ℕ). range_len k block) (size_before p un.number known)) in
            record {
              number = un.number;
              numbered = known;
              digest = un.digest;
              row = sym was.0 ∙ un.row;
              differs = λ equal. un.differs (ap (λ (k : ℕ). md5 (found_there (place un.number block) k c.store)) same ∙ ap md5 stands ∙ equal);
            }

    pub reopened_whole : IsReopenedWhole view first second one list unmatched
    reopened_whole = record {
      whole = list_is;
      found = λ reached p block listed.
          still_unmatched reached p block (subst (λ (l : List Record). IsUnmatched l c.store p block) list_is ((is.exact.exact p block).0 listed));
    }

  -- The next run
  module _ (same : (view second).seen ≡ c) (third : D) (two : EndedRun view second third) where
    next_is : two.list ≡ list_to s n
    next_is = opened_next (view second) (list_to s n) two.list told (subst (λ (i : Image). HasRecords (list_to s n) i.log) (sym same) (settled.records told c left)) two.ended.opening.logged

    -- a file's place in its opening is its number
    placed : (number : ℕ) (file : StartFile) → slice_get two.ended.opened.files.items number ≡ Some file → number_of (list_to s n) file.node.pnode ≡ Some number
    placed number file at =
        number_to s story file.node.pnode number
        (ap (λ (l : List ℕ). slice_get l number)
        (sym (files_proved s.before s.ceiling s.session story.sound story.tells s.history story.legal) ∙ ap files_of (sym list_whole) ∙ ap files_of (sym next_is) ∙ two.ended.opening.files.files)
        ∙ in_mapped (λ (f : StartFile). f.node.pnode) two.ended.opened.files.items number file at)

    -- with which bytes it opens it
    its_bytes : (number : ℕ) (file : StartFile) → slice_get two.ended.opened.files.items number ≡ Some file → IsOpened two.list c.store file.node.pnode file.bytes.items
    its_bytes number file at =
        let is = two.ended.opening.told.each number file at in
        record {
          sized = is.sized ∙ is.size;
          ranges = λ m block numbered row.
              let here : m ≡ number = some_is m number (sym numbered ∙ ap (λ (l : List Record). number_of l file.node.pnode) next_is ∙ placed number file at) in
              two.ended.opening.bytes told number file at block row ∙ ap (λ (i : Image). found_there (place number block) (range_len (size_of two.list file.node.pnode) block) i.store) same
              ∙ ap (λ (k : ℕ). found_there (place k block) (range_len (size_of two.list file.node.pnode) block) c.store) (sym here);
          zero = is.zero;
        }

    pub followed : ((c : Image) → (view third).may_leave c → HasRecords (list_behind two) c.log) → HasFollowed view first second third one two
    followed both = record {
      list = next_is;
      files = λ tells reached number file at.
          let numbered = placed number file at in
          opened_one (list_to s n) c.store file.node.pnode number file.bytes.items (file_after s.session s.history file.node.pnode) numbered
          (subst (λ (l : List Record). IsOpened l c.store file.node.pnode file.bytes.items) next_is (its_bytes number file at)) (opens tells reached file.node.pnode number numbered);
      reached = λ reached. subst (λ (i : Image). IsReached two.list i.store) (sym same) (subst (λ (l : List Record). IsReached l c.store) (sym next_is) (reaches reached));
      left = both;
    }
