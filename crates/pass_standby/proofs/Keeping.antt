-- What a standby's calls do to its disk.
use Rattle.std.proofs.Common.{◌≡◌, ◌⊎◌, ℕ, ◌+◌, ◌-◌, ◌<◌, ◌≤◌, Bool, true, false, List, [], ◌∷◌, ◌++◌, length, take, drop, IsTrue, Result, Ok, Err, inl, inr, ⊎_elim, refl, sym, ◌∙◌, ap, subst, arith, length-append, length-drop}
use Rattle.std.specs.Prelude.{Option, Some, None, nat_le, ◌&&◌, ◌==◌}
use Rattle.std.specs.Option.{option_map_or}
use Rattle.std.specs.Int.{w32, to_be_bytes}
use Rattle.std.specs.List.{All}
use Rattle.std.proofs.lemmas.Bool.Decides.{nat_tests}
use Rattle.std.proofs.lemmas.List.{take_at, take_all}
use Rattle.pass_entry.specs.declared.record.Record.{Record}
use Rattle.pass_entry.specs.declared.record.FlawReason.{FlawReason}
use Rattle.pass_entry.specs.Ranges.{IsInRange}
use Rattle.pass_graph.specs.declared.logged.Logged.{Logged}
use Rattle.pass_graph.specs.Logged.{Summarizes}
use Rattle.pass_graph.proofs.Accepting.{fine-append}
use Rattle.pass_log.specs.declared.fault.LogFault.{LogFault}
use Rattle.pass_log.specs.declared.log.Log.{Log}
use Rattle.pass_log.specs.Log.{standing, IsOldOrMore, IsFrameOf, IsSettled, log_end, log_opened}
use Rattle.pass_log.specs.Records.{records_in, spellings, image_of}
use Rattle.pass_log.specs.Records as logs
use Rattle.pass_outside.specs.Areas.{Image}
use Rattle.pass_outside.specs.Moments.{Moment, Adds, IsDeviceWork}
use Rattle.pass_outside.specs.Runs.{adds_weaker}
use Rattle.pass_plain.specs.WellLogged.{first_flaw_after, IsWellLogged}
use Rattle.pass_standby.specs.declared.frame.Judgement.TheVariants.{Whole}
use Rattle.pass_standby.specs.Streams.{head, furthest, longest_frame, claimed, is_open, is_fit, unflawed, batch_in, Told, spoiled, with_batch, judged, bytes_as, IsWhole, IsSpelled, HasFrames}
use Rattle.pass_standby.specs.declared.following.Following.{Following}
use Rattle.pass_standby.specs.declared.fault.StandbyFault.{StandbyFault}
use Rattle.pass_standby.specs.declared.fault.StandbyFault.TheVariants as faults
use Rattle.pass_standby.specs.Logs.{IsBatch}
use Rattle.pass_standby.specs.Standing.{told_so_far, staged_of, log_to, Leaves, LeavesEither, Reads, IsKept, IsFollowing, Undone}

pub work_none : {F : Type 0} (m : Moment) → (F → ⊥) → IsDeviceWork m m F
work_none {F} m never = record { tells = refl; rises = omega arith; later = omega arith; fault = λ f. absurd (never f); no_fault = λ h. refl }

pub work_then : {F G : Type 0} (old mid new : Moment) → IsDeviceWork old mid F → (F → ⊥) → IsDeviceWork mid new G → IsDeviceWork old new G
work_then {F} {G} old mid new one fine two =
    let same : mid.faults ≡ old.faults = one.no_fault fine in
    record {
      tells = two.tells ∙ one.tells;
      rises = omega (arith, one.rises, two.rises);
      later = omega (arith, one.later, two.later);
      fault = λ g. ⊎_elim (λ more. inl (omega (arith, more, same))) inr (two.fault g);
      no_fault = λ h. two.no_fault h ∙ same;
    }

-- the records of a frame that is read
pub record IsRead (list : List Record) (bytes : List ℕ) (batch : List Record) : Type 0 where
  pub records : records_in 0 (length list) bytes ≡ Ok batch
  pub fine : first_flaw_after list batch ≡ None

pub batch_read : (list : List Record) (bytes : List ℕ) (batch : List Record) → batch_in list bytes ≡ Some batch → IsRead list bytes batch
batch_read list bytes batch is = by_case (records_in 0 (length list) bytes) refl is
  where
    some_of : Option (List Record) → List Record
    some_of (Some l) = l
    some_of None = []

    flawed : (l : List Record) (o : Option (ℕ × FlawReason)) → option_map_or (λ flaw. None) o (Some l) ≡ Some batch → (o ≡ None) × (l ≡ batch)
    flawed l None h = (refl, ap some_of h)
    flawed l (Some x) h = absurd (cc h)

    by_case : (r : Result (List Record) LogFault) → records_in 0 (length list) bytes ≡ r → unflawed list r ≡ Some batch → IsRead list bytes batch
    by_case (Ok l) same h =
        let both = flawed l (first_flaw_after list l) h in
        record { records = same ∙ ap (λ (x : List Record). Ok x) both.1; fine = ap (first_flaw_after list) (sym both.1) ∙ both.0 }
    by_case (Err e) same h = absurd (cc h)

-- they make the list well logged
pub logged_with : (list : List Record) (bytes : List ℕ) (batch : List Record) → batch_in list bytes ≡ Some batch → IsWellLogged list → IsWellLogged (list ++ batch)
logged_with list bytes batch is logged = fine-append [] list batch logged (batch_read list bytes batch is).fine

-- a frame that fits leaves room
pub fit_room : (at count : ℕ) → is_fit at count ≡ true → (1 ≤ count) × (count ≤ longest_frame) × (at + head + count ≤ furthest)
fit_room at count fit =
    let (first, last) = both (nat_le 1 count && nat_le count longest_frame) (nat_le (at + head + count) furthest) fit in
    let (low, high) = both (nat_le 1 count) (nat_le count longest_frame) first in
    (le_is 1 count low, le_is count longest_frame high, le_is (at + head + count) furthest last)
  where
    both : (a b : Bool) → (a && b) ≡ true → (a ≡ true) × (b ≡ true)
    both true true h = (refl, refl)
    both true false h = absurd (cc h)
    both false b h = absurd (cc h)

    le_is : (m n : ℕ) → nat_le m n ≡ true → m ≤ n
    le_is m n h = grind (arith, nat_tests)

-- with a whole frame all of its bytes are kept
bytes_frame : (kept : List ℕ) (t : Told) (frame : List ℕ) (batch : List Record) → bytes_as kept t frame (with_batch t frame batch) ≡ kept ++ frame
bytes_frame kept t frame batch =
    let all : t.at + length frame - t.at ≡ length frame = omega arith in
    ap (λ (n : ℕ). kept ++ take n frame) all ∙ ap (λ (l : List ℕ). kept ++ l) (take_all (length frame) frame (omega arith))

-- what the log writes of a frame is all of it
opened_is : (frame : List ℕ) → is_open frame ≡ true → 1 ≤ length frame → standing (staged_of frame) ≡ frame
opened_is [] gate some = absurd (omega (arith, some))
opened_is (b ∷ rest) gate some =
    let size : length rest ≡ length (rest ++ 0 ∷ []) - 1 = omega (arith, length-append rest (0 ∷ [])) in
    ap (λ (l : List ℕ). 1 ∷ l) (take_at rest (0 ∷ []) (length (rest ++ 0 ∷ []) - 1) size) ∙ ap (λ (n : ℕ). n ∷ rest) (sym (one b gate))
  where
    one : (n : ℕ) → (n == 1) ≡ true → n ≡ 1
    one n same = grind (arith, nat_tests)

staged_size : (frame : List ℕ) → 1 ≤ length frame → length (staged_of frame) ≡ length frame
staged_size frame some = omega (arith, length-append (drop 1 frame) (0 ∷ []), length-drop 1 frame, some)

-- the frame of its records
module _ (at : ℕ) (frame : List ℕ) (whole : IsWhole at frame) (spelled : IsSpelled frame) (batch : List Record) (is : drop head frame ≡ spellings batch) (in_range : All IsInRange batch) where
  pub batch_size : length (spellings batch) ≡ claimed frame
  batch_size = omega (arith, whole.size, ap length is, length-drop head frame)

  pub frame_of : IsFrameOf batch (staged_of frame)
  frame_of = record {
    in_range = in_range;
    fits = omega (arith, batch_size, (fit_room at (claimed frame) whole.fit).1);
    is = ap (λ (l : List ℕ). l ++ 0 ∷ []) (spelled ∙ ap (λ (l : List ℕ). to_be_bytes w32 (claimed frame) ++ l) is ∙ ap (λ (n : ℕ). to_be_bytes w32 n ++ spellings batch) (sym batch_size));
  }

  pub ends : at + 5 + length (spellings batch) ≡ at + length frame
  ends = omega (arith, batch_size, whole.size)

  pub in_reach : at + length frame ≤ furthest
  in_reach = omega (arith, (fit_room at (claimed frame) whole.fit).2, whole.size)

  -- what the log has with it
  pub image_with : (list : List Record) (old new : List ℕ) → image_of old ≡ Ok (record { list = list; end = at }) → image_of new ≡ logs.with_batch batch (image_of old)
      → image_of new ≡ Ok (record { list = list ++ batch; end = at + length frame })
  image_with list old new was with_it = with_it ∙ ap (logs.with_batch batch) was ∙ ap (λ (n : ℕ). Ok (record { list = list ++ batch; end = n })) ends

-- what has come with a whole frame
pub judged_whole : (t : Told) (frame : List ℕ) (batch : List Record) → batch_in t.list (drop head frame) ≡ Some batch → judged t frame Whole ≡ with_batch t frame batch
judged_whole t frame batch is = ap (λ o. option_map_or (with_batch t frame) o (spoiled t frame)) is

pub judged_bad : (t : Told) (frame : List ℕ) → batch_in t.list (drop head frame) ≡ None → judged t frame Whole ≡ spoiled t frame
judged_bad t frame is = ap (λ o. option_map_or (with_batch t frame) o (spoiled t frame)) is

-- the same work where neither answer is a fault of the device
pub work_as : {F G : Type 0} (old new : Moment) → IsDeviceWork old new F → (F → ⊥) → (G → ⊥) → IsDeviceWork old new G
work_as {F} {G} old new one fine none = record {
  tells = one.tells;
  rises = one.rises;
  later = one.later;
  fault = λ g. absurd (none g);
  no_fault = λ h. one.no_fault fine;
}

-- A whole frame was read and appended: of what a standby was, and what its disk and log are.
module _ {D : Type 0} (view : D → Moment) (old : Following D) (kept : IsFollowing view old) (whole : IsWhole (log_end old.log) old.begun.items) (spelled : IsSpelled old.begun.items)
    (list : List Record) (judge : Logged) (b : IsBatch old.index (drop head old.begun.items) [] list judge) where
  frame : List ℕ
  frame = old.begun.items

  after : Told
  after = judged (told_so_far old) old.begun.items Whole

  pub is_frame : IsFrameOf b.batch (staged_of old.begun.items)
  is_frame = frame_of (log_end old.log) old.begun.items whole spelled b.batch b.spelled b.in_range

  pub after_is : judged (told_so_far old) old.begun.items Whole ≡ with_batch (told_so_far old) old.begun.items b.batch
  after_is = judged_whole (told_so_far old) old.begun.items b.batch b.read

  image_after : (log : List ℕ) → IsTrue (view old.disk).tells → image_of log ≡ logs.with_batch b.batch (image_of (view old.disk).seen.log)
      → image_of log ≡ Ok (record { list = old.index ++ b.batch; end = log_end old.log + length old.begun.items })
  image_after log told with_it = image_with (log_end old.log) old.begun.items whole spelled b.batch b.spelled b.in_range old.index (view old.disk).seen.log log (kept.reads told) with_it

  -- the bytes up to the old end
  abbrev pub before_it : List ℕ
  before_it = log_to (view old.disk) (log_end old.log)

  -- and those with the frame
  abbrev pub with_it : List ℕ
  with_it = bytes_as before_it (told_so_far old) old.begun.items (judged (told_so_far old) old.begun.items Whole)

  some_frame : 1 ≤ length old.begun.items
  some_frame = omega (arith, whole.size)

  bytes_after : (log : List ℕ) → take (log_end old.log + length (staged_of old.begun.items)) log ≡ before_it ++ standing (staged_of old.begun.items)
      → take (log_end old.log + length old.begun.items) log ≡ bytes_as before_it (told_so_far old) old.begun.items (with_batch (told_so_far old) old.begun.items b.batch)
  bytes_after log is =
      ap (λ (n : ℕ). take (log_end old.log + n) log) (sym (staged_size old.begun.items some_frame)) ∙ is ∙ ap (λ (l : List ℕ). before_it ++ l) (opened_is old.begun.items whole.gate some_frame)
      ∙ sym (bytes_frame before_it (told_so_far old) old.begun.items b.batch)

  -- a crash on the way leaves what was there, or the frame too
  pub moments_with : (new : Moment) → IsTrue (view old.disk).tells
      → ((batch : List Record) → IsFrameOf batch (staged_of old.begun.items) → IsTrue (view old.disk).tells
      → Adds (view old.disk) new (λ c. IsOldOrMore batch (staged_of old.begun.items) (log_end old.log) (view old.disk).seen.log c.log))
      → Adds (view old.disk) new (λ c. HasFrames (told_so_far old) before_it c.log ⊎ HasFrames (judged (told_so_far old) old.begun.items Whole) with_it c.log)
  moments_with new told any = adds_weaker (λ c. HasFrames (told_so_far old) before_it c.log ⊎ HasFrames (judged (told_so_far old) old.begun.items Whole) with_it c.log) (view old.disk) new (any b.batch is_frame told)
      (λ c x. either c x)
    where
      either : (c : Image) → IsOldOrMore b.batch (staged_of old.begun.items) (log_end old.log) (view old.disk).seen.log c.log
          → HasFrames (told_so_far old) before_it c.log ⊎ HasFrames (judged (told_so_far old) old.begun.items Whole) with_it c.log
      either c (inl same) = inl (record { image = same.image ∙ kept.reads told; bytes = same.bytes })
      either c (inr more) = inr (subst (λ (u : Told). HasFrames u (bytes_as before_it (told_so_far old) old.begun.items u) c.log) (sym after_is)
          (record { image = image_after c.log told more.image; bytes = bytes_after c.log more.bytes }))

  -- a device call failed on the way
  pub stopped_with : (new : Moment) → new.tells ≡ (view old.disk).tells → ((c : Image) → (view old.disk).left_since (view old.disk).calls c → (view old.disk).may_leave c)
      → ((c : Image) → new.may_leave c → (view old.disk).calls ≤ new.calls → new.left_since (view old.disk).calls c)
      → ((batch : List Record) → IsFrameOf batch (staged_of old.begun.items) → IsTrue (view old.disk).tells
      → Adds (view old.disk) new (λ c. IsOldOrMore batch (staged_of old.begun.items) (log_end old.log) (view old.disk).seen.log c.log))
      → ((judged (told_so_far old) old.begun.items Whole).bad ≡ false) × (log_end old.log < (judged (told_so_far old) old.begun.items Whole).at)
      × LeavesEither new (told_so_far old) before_it (judged (told_so_far old) old.begun.items Whole) with_it
  stopped_with new same before since any = (
    ap (λ (u : Told). u.bad) after_is,
    omega (arith, ap (λ (u : Told). u.at) after_is, whole.size),
    λ tells c may.
        let told = subst IsTrue same tells in
        let adds = moments_with new told any in
        ⊎_elim (λ left. inl (kept.leaves told c (before c left))) (λ either. either) (adds.nothing_else (view old.disk).calls c (omega arith) (since c may adds.later)),
  )

  module _ (disk : D) (log : Log) (end : log_end log ≡ log_end old.log + length old.begun.items) (index : List Record) where
    -- the index has all of it
    pub kept_with : index ≡ old.index ++ list → IsSettled log (view disk) → (view disk).faults ≡ log_opened log → (view disk).tells ≡ (view old.disk).tells
        → ((batch : List Record) → IsFrameOf batch (staged_of old.begun.items) → IsTrue (view old.disk).tells → (c : Image) → (view disk).may_leave c → image_of c.log ≡ logs.with_batch batch (image_of (view old.disk).seen.log))
        → ((batch : List Record) → IsFrameOf batch (staged_of old.begun.items) → IsTrue (view old.disk).tells → image_of (view disk).seen.log ≡ logs.with_batch batch (image_of (view old.disk).seen.log))
        → (IsTrue (view old.disk).tells → (c : Image) → (view disk).may_leave c → c.log ≡ (view disk).seen.log) → IsKept (view disk) log index judge
    kept_with put settled healthy same leaves reads durable =
        let all : index ≡ old.index ++ b.batch = put ∙ ap (λ (l : List Record). old.index ++ l) b.put in
        let ends_there : Ok (record { list = old.index ++ b.batch; end = log_end old.log + length old.begun.items }) ≡ Ok (record { list = index; end = log_end log }) =
        ap (λ (l : List Record). Ok (record { list = l; end = log_end old.log + length old.begun.items })) (sym all) ∙ ap (λ (n : ℕ). Ok (record { list = index; end = n })) (sym end) in
        record {
          settled = settled;
          healthy = healthy;
          says = subst (Summarizes judge) (sym all) b.says;
          logged = subst IsWellLogged (sym all) (logged_with old.index (drop head old.begun.items) b.batch b.read kept.logged);
          place = omega (arith, end, in_reach (log_end old.log) old.begun.items whole spelled b.batch b.spelled b.in_range);
          reads = λ tells. let told = subst IsTrue same tells in image_after (view disk).seen.log told (reads b.batch is_frame told) ∙ ends_there;
          leaves = λ tells c may.
              let told = subst IsTrue same tells in
              record { image = image_after c.log told (leaves b.batch is_frame told c may) ∙ ends_there; bytes = ap (take (log_end log)) (durable told c may) };
        }

    -- its bytes stand behind the others
    pub frame_kept : (view disk).tells ≡ (view old.disk).tells
        → (IsTrue (view old.disk).tells → log_to (view disk) (log_end old.log + length (staged_of old.begun.items)) ≡ before_it ++ standing (staged_of old.begun.items)) → Reads (view disk) (log_end log) with_it
    frame_kept same is = λ tells.
        ap (λ (n : ℕ). take n (view disk).seen.log) end ∙ bytes_after (view disk).seen.log (is (subst IsTrue same tells))
        ∙ ap (λ (u : Told). bytes_as before_it (told_so_far old) old.begun.items u) (sym after_is)

    pub told_with : index ≡ old.index ++ list → (begun : List ℕ) → begun ≡ [] → record { list = index; at = log_end log; begun = begun; bad = false } ≡ judged (told_so_far old) old.begun.items Whole
    told_with put begun none =
        let all : index ≡ old.index ++ b.batch = put ∙ ap (λ (l : List Record). old.index ++ l) b.put in
        ap (told_at (log_end log) begun) all ∙ ap (told_of_end begun) end ∙ ap told_of_begun none ∙ sym after_is
      where
        told_at : ℕ → List ℕ → List Record → Told
        told_at n f l = record { list = l; at = n; begun = f; bad = false }

        told_of_end : List ℕ → ℕ → Told
        told_of_end f n = record { list = old.index ++ b.batch; at = n; begun = f; bad = false }

        told_of_begun : List ℕ → Told
        told_of_begun f = record { list = old.index ++ b.batch; at = log_end old.log + length old.begun.items; begun = f; bad = false }

    -- the index lacks some of it
    pub undone_with : (lacks : List Record) → index ++ lacks ≡ old.index ++ list → length old.index ≤ length index
        → ((index ≡ old.index) × (log_end log ≡ log_end old.log))
        ⊎ (((judged (told_so_far old) old.begun.items Whole).bad ≡ false) × ((lacks : List Record) × (index ++ lacks ≡ (judged (told_so_far old) old.begun.items Whole).list))
        × (length old.index ≤ length index) × (log_end log ≡ (judged (told_so_far old) old.begun.items Whole).at))
    undone_with lacks put least = inr (
      ap (λ (u : Told). u.bad) after_is,
      (lacks, put ∙ ap (λ (l : List Record). old.index ++ l) b.put ∙ ap (λ (u : Told). u.list) (sym after_is)),
      least,
      end ∙ ap (λ (u : Told). u.at) (sym after_is),
    )

-- a frame that has no records was not kept
pub undone_bad : {D : Type 0} (view : D → Moment) (old new : Following D) (at : ℕ) → IsFollowing view old → at ≡ log_end old.log → batch_in old.index (drop head old.begun.items) ≡ None
    → new.disk ≡ old.disk → new.log ≡ old.log → new.index ≡ old.index
    → Undone view (log_to (view old.disk) (log_end old.log)) (told_so_far old) old.begun.items (judged (told_so_far old) old.begun.items Whole) new (faults.BadStream at)
undone_bad {D} view old new at kept place none same_disk same_log same_index =
    let is = judged_bad (told_so_far old) old.begun.items none in (
      place ∙ ap log_end (sym same_log),
      ap (λ (u : Told). u.bad) is,
      same_index ∙ ap (λ (u : Told). u.list) (sym is),
      ap log_end same_log ∙ ap (λ (u : Told). u.at) (sym is),
      leaves_same,
      ap (λ (u : Told). u.at) is,
      λ tells. ap (λ (d : D). log_to (view d) (log_end new.log)) same_disk ∙ ap (λ (l : Log). log_to (view old.disk) (log_end l)) same_log,
    )
  where
    leaves_same : Leaves (view new.disk) new.index (log_end new.log)
    leaves_same = subst (λ (d : D). Leaves (view d) new.index (log_end new.log)) (sym same_disk)
        (subst (λ (l : List Record). Leaves (view old.disk) l (log_end new.log)) (sym same_index)
        (subst (λ (l : Log). Leaves (view old.disk) old.index (log_end l)) (sym same_log) kept.leaves))

-- a device call failed, or memory was refused, before the frame was kept
pub undone_before : {D : Type 0} (view : D → Moment) (kept : List ℕ) (t : Told) (frame : List ℕ) (u : Told) (new : Following D) (e : StandbyFault) → (e ≡ faults.DiskFault) ⊎ (e ≡ faults.NoMemory)
    → new.index ≡ t.list → log_end new.log ≡ t.at → (e ≡ faults.DiskFault → (u.bad ≡ false) × (t.at < u.at) × LeavesEither (view new.disk) t kept u (bytes_as kept t frame u))
    → Undone view kept t frame u new e
undone_before view kept t frame u new faults.DiskFault which list at whole = let (good, more, leaves) = whole refl in (list, at, good, more, leaves)
undone_before view kept t frame u new faults.NoMemory which list at whole = inl (list, at)
undone_before view kept t frame u new (faults.BadStream n) (inl h) list at whole = absurd (cc h)
undone_before view kept t frame u new (faults.BadStream n) (inr h) list at whole = absurd (cc h)
undone_before view kept t frame u new (faults.BadLog n) (inl h) list at whole = absurd (cc h)
undone_before view kept t frame u new (faults.BadLog n) (inr h) list at whole = absurd (cc h)
undone_before view kept t frame u new (faults.Closed n) (inl h) list at whole = absurd (cc h)
undone_before view kept t frame u new (faults.Closed n) (inr h) list at whole = absurd (cc h)

-- a frame that wasn't read
abbrev pub IsNotRead : {D : Type 0} → Following D → ℕ → StandbyFault → Type 0
IsNotRead old at e = (e ≡ faults.NoMemory) ⊎ ((e ≡ faults.BadStream at) × (batch_in old.index (drop head old.begun.items) ≡ None))

pub undone_unread : {D : Type 0} (view : D → Moment) (old new : Following D) (at : ℕ) (e : StandbyFault) → IsFollowing view old → at ≡ log_end old.log → IsNotRead old at e
    → new.disk ≡ old.disk → new.log ≡ old.log → new.index ≡ old.index
    → Undone view (log_to (view old.disk) (log_end old.log)) (told_so_far old) old.begun.items (judged (told_so_far old) old.begun.items Whole) new e
undone_unread view old new at e kept place (inl h) same_disk same_log same_index =
    undone_before view (log_to (view old.disk) (log_end old.log)) (told_so_far old) old.begun.items (judged (told_so_far old) old.begun.items Whole) new e (inr h) same_index (ap log_end same_log)
    (λ disk. absurd (cc (h, disk)))
undone_unread {D} view old new at e kept place (inr h) same_disk same_log same_index =
    subst (λ (x : StandbyFault). Undone view (log_to (view old.disk) (log_end old.log)) (told_so_far old) old.begun.items (judged (told_so_far old) old.begun.items Whole) new x) (sym h.0)
    (undone_bad view old new at kept place h.1 same_disk same_log same_index)

-- and that is no fault of the device
pub unread_no_fault : {D : Type 0} {X : Type 0} (old : Following D) (at : ℕ) (e : StandbyFault) → IsNotRead old at e → (r : Result X StandbyFault) → r ≡ Err e → r ≡ Err faults.DiskFault → ⊥
unread_no_fault old at e (inl h) r is disk = absurd (cc (h, is, disk))
unread_no_fault old at e (inr h) r is disk = absurd (cc (h.0, is, disk))

-- the same fault, handed on
pub work_err : {X Y : Type 0} (old new : Moment) (e d : StandbyFault) (r : Result X StandbyFault) (s : Result Y StandbyFault) → r ≡ Err e → s ≡ Err e → IsDeviceWork old new (r ≡ Err d) → IsDeviceWork old new (s ≡ Err d)
work_err {X} {Y} old new e d r s is as_is one = record {
  tells = one.tells;
  rises = one.rises;
  later = one.later;
  fault = λ h. let same : e ≡ d = cc (as_is, h) in one.fault (is ∙ ap (λ (x : StandbyFault). Err x) same);
  no_fault = λ h. one.no_fault (λ f. let same : e ≡ d = cc (is, f) in h (as_is ∙ ap (λ (x : StandbyFault). Err x) same));
}
