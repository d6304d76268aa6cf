-- Versions that are kept one after the other.
use Rattle.std.proofs.Common.{◌≡◌, ◌≢◌, ◌⊎◌, ℕ, zero, suc, ◌+◌, ◌<◌, ◌≤◌, ◌^◌, List, [], ◌∷◌, ◌++◌, length, map, take, drop, get_or, Result, Ok, Err, IsTrue, inl, inr, ⊎_elim, refl, sym, ◌∙◌, ap, subst, arith, append_assoc, length-append}
use Rattle.std.specs.Prelude.{flat_map, IsErrOf, IfErr, Bool, true, false, ◌&&◌, if◌then◌else◌}
use Rattle.std.proofs.lemmas.List.{append-nil, take_more, map_more, take_all, take-append-le, take-append-drop}
use Rattle.std.proofs.lemmas.List.Concat.{flat_map-append}
use Rattle.pass_outside.specs.Areas.{Image}
use Rattle.pass_outside.specs.Moments.{Moment, IsAtEnd, Adds, IsDeviceWork}
use Rattle.pass_outside.specs.Runs.{adds_nothing, adds_both, adds_weaker}
use Rattle.pass_log.proofs.Append.{leaves_none, leaves_more}
use Rattle.pass_leaf.specs.declared.fault.OldFault.{OldFault}
use Rattle.pass_leaf.specs.declared.fault.OldFault.TheVariants as faults
use Rattle.pass_leaf.specs.Leaves.{Leaf}
use Rattle.pass_leaf.specs.Keeping.{FileVersion, kept_all, is_above}
use Rattle.pass_leaf.specs.Gatherings.{frames_size, Gathering, all_of, with_version, settled}
use Rattle.pass_leaf.specs.Archives.{Archive, IsArchive, LeavesThem}
use Rattle.pass_leaf.specs.Open.{IsOneOf, IsUnkept, next_end, gathering_of, all_leaves, whole_end, HasMoved}
use Rattle.pass_leaf.proofs.Answering.{work_as, next_of}
use Rattle.pass_entry.specs.declared.entry.Entry.{Entry}
use Rattle.pass_plain.specs.Sessions.{Session}
use Rattle.pass_plain.proofs.Replays.{replay-append}
use Rattle.pass_plain.specs.Registries.{registry_after}
use Rattle.pass_plain.specs.Versions.{nodes_of, is_freeze}
use Rattle.pass_past.specs.Pasts.{is_file_in, version_of, ended_by, ended_versions}
use Rattle.pass_past.specs.Keepings.{Begins, HasSome, gathered_all, call_behind, HasFrom, StandSince, StandNow, IsStop, IsKeeping, HasKept, HasStopped, IsInFrontOf, IsHalted}
use Rattle.pass_past.proofs.Batches.{kept_all-append, begins_kept, IsBehind, behind_front, stepped, unmoved, IsSettledFrom, settled_from, IsFirst, parted}

pub begins_itself : (done : List FileVersion) → Begins done done
begins_itself done = ([], sym (append-nil done))

pub begins_more : (done more : List FileVersion) → Begins done (done ++ more)
begins_more done more = (more, refl)

pub begins_on : (a b c : List FileVersion) → Begins a b → Begins b c → Begins a c
begins_on a b c x y = (x.0 ++ y.0, y.1 ∙ ap (λ (l : List FileVersion). l ++ y.0) x.1 ∙ append_assoc a x.0 y.0)

some_on : (leaves : List Leaf) (done versions : List FileVersion) (log : List ℕ) → Begins done versions → HasSome leaves done log → HasSome leaves versions log
some_on leaves done versions log b s = (s.0, begins_on s.0 done versions s.1 b, s.2)

-- what a function did that made no device call failed, and then one more
pub work_both : (old mid new : Moment) (failed : Type 0) → IsDeviceWork old mid ⊥ → IsDeviceWork mid new failed → IsDeviceWork old new failed
work_both old mid new failed one two = record {
  tells = two.tells ∙ one.tells;
  rises = omega (arith, one.rises, two.rises);
  later = omega (arith, one.later, two.later);
  fault = λ f. ⊎_elim (λ more. inl (omega (arith, more, one.rises))) inr (two.fault f);
  no_fault = λ none. two.no_fault none ∙ one.no_fault (λ x. x);
}

-- a fault of keeping one version
pub fault_as : {T : Type 0} (old new : Moment) (f : OldFault) → IsDeviceWork old new (IsErrOf {T = T} (Err f) faults.DiskFault) → IsDeviceWork old new (f ≡ faults.DiskFault)
fault_as {T} old new f w = work_as old new (IsErrOf {T = T} (Err f) faults.DiskFault) (f ≡ faults.DiskFault) (λ e. ap (λ (x : OldFault). err_with x) e) (λ e. cc e) w
  where
    err_with : OldFault → Result T OldFault
    err_with x = Err x

pub no_fault_as : {T : Type 0} (old new : Moment) (x : T) → IsDeviceWork old new (IsErrOf (Ok x) faults.DiskFault) → IsDeviceWork old new ⊥
no_fault_as {T} old new x w = work_as old new (IsErrOf (Ok x) faults.DiskFault) ⊥ (λ none. absurd none) (λ e. absurd (cc e)) w

stop_on : (leaves : List Leaf) (end : ℕ) (rest more : List FileVersion) (e : OldFault) → IsStop leaves end rest e → IsStop leaves end (rest ++ more) e
stop_on leaves end rest more e (inl is) = inl is
stop_on leaves end rest more e (inr (v, behind, is, above, unkept)) = inr (v, behind ++ more, ap (λ (l : List FileVersion). l ++ more) is, above, unkept)

-- the first versions of a list that goes on
take_begins : (done versions : List FileVersion) (n : ℕ) → Begins done versions → n ≤ length done → take n versions ≡ take n done
take_begins done versions n b le = ap (λ (l : List FileVersion). take n l) b.1 ∙ take-append-le n done b.0 le

from_on : (least : ℕ) (leaves : List Leaf) (done versions : List FileVersion) (log : List ℕ) → Begins done versions → HasFrom least leaves done log → HasFrom least leaves versions log
from_on least leaves done versions log b (some, begins, enough, is) = (some, begins_on some done versions begins b, enough, is)

since_on : (first now : Moment) (leaves : List Leaf) (done versions : List FileVersion) (count : ℕ) → Begins done versions → count ≤ length done → StandSince first now leaves done count → StandSince first now leaves versions count
since_on first now leaves done versions count b within since n few c left =
    let same = take_begins done versions n b (omega (arith, few, within)) in
    subst (λ (l : List FileVersion). HasFrom (length (gathered_all leaves l).written) leaves versions c.log) (sym same)
    (from_on (length (gathered_all leaves (take n done)).written) leaves done versions c.log b (since n few c (subst (λ (l : List FileVersion). now.left_since (call_behind first leaves l) c) same left)))

since_few : (first now : Moment) (leaves : List Leaf) (versions : List FileVersion) (few count : ℕ) → few ≤ count → StandSince first now leaves versions count → StandSince first now leaves versions few
since_few first now leaves versions few count le since n low c left = since n (omega (arith, low, le)) c left

-- all of the first versions
all_from : (leaves : List Leaf) (done versions : List FileVersion) (log : List ℕ) (least end : ℕ) → Begins done versions → least ≤ length (kept_all leaves done) → IsArchive log (kept_all leaves done) end → HasFrom least leaves versions log
all_from leaves done versions log least end b enough is = (done, b, enough, (end, is))

either_from : (leaves : List Leaf) (standing whole versions : List FileVersion) (old all : List Leaf) (least : ℕ) (log : List ℕ) → old ≡ kept_all leaves standing → all ≡ kept_all leaves whole → Begins standing whole → Begins whole versions
    → least ≤ length old → IsOneOf old all log → HasFrom least leaves versions log
either_from leaves standing whole versions old all least log old_is all_is b d enough (end, inl is) =
    all_from leaves standing versions log least end (begins_on standing whole versions b d) (omega (arith, enough, ap length old_is)) (subst (λ (l : List Leaf). IsArchive log l end) old_is is)
either_from leaves standing whole versions old all least log old_is all_is b d enough (end, inr is) =
    all_from leaves whole versions log least end d (omega (arith, enough, ap length old_is, begins_kept leaves standing whole b)) (subst (λ (l : List Leaf). IsArchive log l end) all_is is)

last_or : (n m : ℕ) → n ≤ m + 1 → (n ≤ m) ⊎ (n ≡ m + 1)
last_or n m le = grind arith

none_or : (n : ℕ) → (n ≡ 0) ⊎ (1 ≤ n)
none_or n = grind arith

longer_by_one : (done : List FileVersion) (v : FileVersion) → length (done ++ v ∷ []) ≡ length done + 1
longer_by_one done v = length-append done (v ∷ [])

disk_or : (e : OldFault) → (e ≡ faults.DiskFault) ⊎ (e ≢ faults.DiskFault)
disk_or faults.DiskFault = inl refl
disk_or (faults.Broken opened now) = inr (λ is. cc is)
disk_or (faults.BadFrame at) = inr (λ is. cc is)
disk_or faults.NoVersion = inr (λ is. cc is)
disk_or faults.NoMemory = inr (λ is. cc is)

-- the first version of a batch, for whose frame there was room
abbrev IsHead : List Leaf → ℕ → List FileVersion → Type 0
IsHead leaves end batch = (v : FileVersion) × (more : List FileVersion) × (batch ≡ v ∷ more) × IsTrue (is_above leaves v.node) × (next_end leaves end v < 2 ^ 39)

module _ {A : Type 0} (view : A → Moment) where
  pub kept_none : (first : Archive A) → first.gathered ≡ [] → (view first.disk).faults ≡ first.opened → LeavesThem (view first.disk) first.opened first.leaves first.end
      → ((c : Image) → (view first.disk).left_since (view first.disk).calls c → (view first.disk).may_leave c) → IsKeeping view first [] first
  kept_none first none healthy leaves now = record {
    leaves_are = refl;
    gathered_are = none;
    opened_is = refl;
    healthy = omega (arith, healthy);
    work = record { tells = refl; rises = omega arith; later = omega arith; fault = λ none. absurd none; no_fault = λ none. refl };
    moments = λ tells. adds_nothing (view first.disk) (λ c. HasSome first.leaves [] c.log);
    calls = omega arith;
    since = λ tells alive n few c left.
        let none : n ≡ 0 = omega (arith, few) in
        let here : call_behind (view first.disk) first.leaves (take n []) ≡ (view first.disk).calls = ap (λ (k : ℕ). call_behind (view first.disk) first.leaves (take k [])) none ∙ omega arith in
        let is = leaves tells healthy alive c (now c (subst (λ (t : ℕ). (view first.disk).left_since t c) here left)) in
        subst (λ (k : ℕ). HasFrom (length (gathered_all first.leaves (take k [])).written) first.leaves [] c.log) (sym none)
        (all_from first.leaves [] [] c.log (length first.leaves) first.end (begins_itself []) (omega arith) is);
    late = λ tells alive c left. leaves tells healthy alive c (now c left);
    crash = λ tells alive. leaves tells healthy alive;
    store = leaves_none (view first.disk);
  }

  -- A call brings the archive further, whose leaves are then those of the first versions of a list.
  module _ {T : Type 0} (first : Archive A) (done : List FileVersion) (old new : Archive A) (h : IsKeeping view first done old) (goal : Gathering) (r : Result T OldFault) (m : HasMoved view old new goal r)
      (whole : List FileVersion) (on : Begins done whole) (all : all_of goal ≡ kept_all first.leaves whole) where
    abbrev standing : List FileVersion
    standing = (parted first.leaves done).standing

    stands : old.leaves ≡ kept_all first.leaves standing
    stands = h.leaves_are ∙ (parted first.leaves done).written_is

    begins : Begins standing whole
    begins = begins_on standing done whole ((parted first.leaves done).behind, (parted first.leaves done).parts) on

    told : IsTrue (view first.disk).tells → IsTrue (view old.disk).tells
    told tells = subst IsTrue (sym h.work.tells) tells

    step_moments : IsTrue (view first.disk).tells → Adds (view first.disk) (view new.disk) (λ c. HasSome first.leaves whole c.log)
    step_moments tells =
        adds_both (λ c. HasSome first.leaves whole c.log) (view first.disk) (view old.disk) (view new.disk) (h.moments tells) (m.any_moment (told tells)) (λ c x. some_on first.leaves done whole c.log on x) some
      where
        some : (c : Image) → IsOneOf old.leaves (all_of goal) c.log → HasSome first.leaves whole c.log
        some c x = let f = either_from first.leaves standing whole whole old.leaves (all_of goal) 0 c.log stands all begins (begins_itself whole) (omega arith) x in (f.0, f.1, f.3)

    -- a crash since the batches of the first versions were written
    step_since : IsTrue (view first.disk).tells → (IsAtEnd (view first.disk) → ⊥) → StandSince (view first.disk) (view new.disk) first.leaves whole (length done)
    step_since tells alive n few c left =
        let same = take_begins done whole n on few in
        let g = gathered_all first.leaves (take n done) in
        let front : IsBehind g (gathered_all first.leaves done) = behind_front first.leaves done n in
        let here = subst (λ (l : List FileVersion). (view new.disk).left_since (call_behind (view first.disk) first.leaves l) c) same left in
        let early : call_behind (view first.disk) first.leaves (take n done) ≤ (view old.disk).calls = omega (arith, h.calls, front.batches) in
        let enough : length g.written ≤ length old.leaves = omega (arith, front.written, ap length h.leaves_are) in
        subst (λ (l : List FileVersion). HasFrom (length (gathered_all first.leaves l).written) first.leaves whole c.log) (sym same)
        (⊎_elim (λ was. from_on (length g.written) first.leaves done whole c.log on (h.since tells alive n few c was))
        (λ x. either_from first.leaves standing whole whole old.leaves (all_of goal) (length g.written) c.log stands all begins (begins_itself whole) enough x)
        ((m.any_moment (told tells)).nothing_else (call_behind (view first.disk) first.leaves (take n done)) c early here))

  module _ {T : Type 0} (first : Archive A) (done : List FileVersion) (old new : Archive A) (h : IsKeeping view first done old) (goal : Gathering) (x : T) (m : HasMoved view old new goal (Ok x))
      (same : goal.batches ≡ 0 → goal.written ≡ old.leaves) where
    told_now : IsTrue (view first.disk).tells → IsTrue (view old.disk).tells
    told_now tells = subst IsTrue (sym h.work.tells) tells

    as_was : (none : goal.batches ≡ 0) (P : List Leaf → ℕ → Type 0) → P old.leaves old.end → P new.leaves new.end
    as_was none P p =
        subst (λ (l : List Leaf). P l new.end) (sym (m.moved.0 ∙ same none)) (subst (λ (n : ℕ). P old.leaves n) (sym (m.alone none).1) p)

    step_late : IsTrue (view first.disk).tells → (IsAtEnd (view first.disk) → ⊥) → StandNow (view new.disk) new.leaves new.end
    step_late tells alive = elim (none_or goal.batches) [
      | inl none ↦ as_was none (λ leaves end. StandNow (view new.disk) leaves end) (subst (λ (d : A). StandNow (view d) old.leaves old.end) (sym (m.alone none).0) (h.late tells alive))
      | inr some ↦ m.since some (told_now tells)
    ]

    step_crash : IsTrue (view first.disk).tells → (IsAtEnd (view first.disk) → ⊥) → (c : Image) → (view new.disk).may_leave c → IsArchive c.log new.leaves new.end
    step_crash tells alive c may = elim (none_or goal.batches) [
      | inl none ↦ as_was none (λ leaves end. IsArchive c.log leaves end) (h.crash tells alive c (subst (λ (d : A). (view d).may_leave c) (m.alone none).0 may))
      | inr some ↦ m.acknowledged some (told_now tells) c may
    ]

  -- one version more was kept
  pub one_kept : {T : Type 0} (first : Archive A) (done : List FileVersion) (old new : Archive A) (v : FileVersion) (x : T) → IsKeeping view first done old → HasMoved view old new (with_version (gathering_of old) v) (Ok x)
      → IsKeeping view first (done ++ v ∷ []) new
  one_kept {T} first done old new v x h m =
      let goal = with_version (gathering_of old) v in
      let whole = done ++ v ∷ [] in
      let g = gathered_all first.leaves whole in
      let st = stepped first.leaves done v old.leaves old.gathered h.leaves_are h.gathered_are in
      let p = parted first.leaves whole in
      let all : all_of goal ≡ kept_all first.leaves whole = (λ i. sym st.written i ++ sym st.gathered i) ∙ p.all_is in
      let work = no_fault_as (view old.disk) (view new.disk) x m.work in
      let calls : (view new.disk).calls ≡ call_behind (view first.disk) first.leaves whole = omega (arith, m.calls, h.calls, st.batches) in
      let same = unmoved old.leaves old.gathered v in
      let leaves : new.leaves ≡ g.written = m.moved.0 ∙ sym st.written in
      let late = step_late first done old new h goal x m same in
      let since : IsTrue (view first.disk).tells → (IsAtEnd (view first.disk) → ⊥) → StandSince (view first.disk) (view new.disk) first.leaves whole (length whole) =
      λ tells alive n few c left. elim (last_or n (length done) (omega (arith, few, longer_by_one done v))) [
        | inl early ↦ step_since first done old new h goal (Ok x) m whole (begins_more done (v ∷ [])) all tells alive n early c left
        | inr last ↦
            let every : take n whole ≡ whole = take_all n whole (omega (arith, last, longer_by_one done v)) in
            let here = subst (λ (t : ℕ). (view new.disk).left_since t c) (ap (call_behind (view first.disk) first.leaves) every ∙ sym calls) left in
            let is : IsArchive c.log (kept_all first.leaves p.standing) new.end = subst (λ (l : List Leaf). IsArchive c.log l new.end) (leaves ∙ p.written_is) (late tells alive c here) in
            subst (λ (l : List FileVersion). HasFrom (length (gathered_all first.leaves l).written) first.leaves whole c.log) (sym every)
            (all_from first.leaves p.standing whole c.log (length g.written) new.end (p.behind, p.parts) (omega (arith, ap length p.written_is)) is)
      ] in
      record {
        leaves_are = leaves;
        gathered_are = m.moved.1 ∙ sym st.gathered;
        opened_is = m.opened ∙ h.opened_is;
        healthy = omega (arith, h.healthy, work.no_fault (λ none. none), m.opened);
        work = work_both (view first.disk) (view old.disk) (view new.disk) ⊥ h.work work;
        moments = step_moments first done old new h goal (Ok x) m whole (begins_more done (v ∷ [])) all;
        calls = calls;
        since = since;
        late = late;
        crash = step_crash first done old new h goal x m same;
        store = leaves_more (view first.disk) (view old.disk) (view new.disk) h.work.tells h.store m.store;
      }

  -- a device call failed while a batch was written
  batch_stopped : {T : Type 0} (first : Archive A) (done : List FileVersion) (old new : Archive A) (goal : Gathering) (e : OldFault) (whole more : List FileVersion) → IsKeeping view first done old → HasMoved {T = T} view old new goal (Err e)
      → whole ≡ done ++ more → all_of goal ≡ kept_all first.leaves whole → e ≡ faults.DiskFault → IsHead old.leaves old.end ((parted first.leaves done).behind ++ more) → HasStopped view first whole new e
  batch_stopped {T} first done old new goal e whole more h m whole_is all is (u, others, batch_is, above, room) =
      let p = parted first.leaves done in
      let batch = p.behind ++ more in
      let parts : whole ≡ p.standing ++ batch = whole_is ∙ ap (λ (l : List FileVersion). l ++ more) p.parts ∙ append_assoc p.standing p.behind more in
      let on : Begins done whole = (more, whole_is) in
      let leaves : new.leaves ≡ kept_all first.leaves p.standing = m.stays.0 ∙ h.leaves_are ∙ p.written_is in
      let every : all_of goal ≡ kept_all new.leaves batch = all ∙ ap (kept_all first.leaves) parts ∙ kept_all-append first.leaves p.standing batch ∙ ap (λ (l : List Leaf). kept_all l batch) (sym leaves) in
      let low : next_end new.leaves new.end u < 2 ^ 39 = subst (λ (l : List Leaf). next_end l new.end u < 2 ^ 39) (sym m.stays.0) (subst (λ (n : ℕ). next_end old.leaves n u < 2 ^ 39) (sym m.stays.1) room) in
      record {
        done = p.standing;
        rest = batch;
        versions_are = parts;
        leaves_are = leaves;
        cause = inr (u, others, batch_is, subst (λ (l : List Leaf). IsTrue (is_above l u.node)) (sym m.stays.0) above, subst (IsUnkept new.leaves new.end u) (sym is) low);
        batch = batch;
        batch_is = begins_itself batch;
        no_batch = inr is;
        opened_is = m.opened ∙ h.opened_is;
        work = work_both (view first.disk) (view old.disk) (view new.disk) (e ≡ faults.DiskFault) h.work (fault_as {T = T} (view old.disk) (view new.disk) e m.work);
        moments = step_moments first done old new h goal (Err e) m whole on all;
        since = λ tells alive. since_few (view first.disk) (view new.disk) first.leaves whole (length p.standing) (length done) (omega (arith, ap length p.parts, length-append p.standing p.behind))
            (step_since first done old new h goal (Err e) m whole on all tells alive);
        late = inl is;
        crash = λ tells alive c may.
            let x = m.crash (subst IsTrue (sym h.work.tells) tells) (h.crash tells alive) c may in
            subst (λ (l : List Leaf). IsOneOf l (kept_all new.leaves batch) c.log) (sym m.stays.0) (subst (λ (l : List Leaf). IsOneOf old.leaves l c.log) every x);
        store = leaves_more (view first.disk) (view old.disk) (view new.disk) h.work.tells h.store m.store;
      }

  -- those that are gathered begin with one for which there is room
  gathered_head : (first old : Archive A) (done more : List FileVersion) → IsKeeping view first done old → IsFirst (gathered_all first.leaves done) (parted first.leaves done).behind → whole_end old < 2 ^ 39
      → IsHead old.leaves old.end ((parted first.leaves done).behind ++ more)
  gathered_head first old done more h (u, behind, others, behind_is, above, first_is) room =
      let gathered : old.gathered ≡ next_of old.leaves u ∷ others = h.gathered_are ∙ first_is ∙ ap (λ (l : List Leaf). next_of l u ∷ others) (sym h.leaves_are) in (
        u,
        behind ++ more,
        ap (λ (l : List FileVersion). l ++ more) behind_is,
        subst (λ (l : List Leaf). IsTrue (is_above l u.node)) (sym h.leaves_are) above,
        omega (arith, room, ap frames_size gathered),
      )

  nothing_gathered : (old : Archive A) → old.gathered ≡ [] → (all_leaves old ≡ old.leaves) × (whole_end old ≡ old.end)
  nothing_gathered old none = (ap (λ (l : List Leaf). old.leaves ++ l) none ∙ append-nil old.leaves, omega (arith, ap frames_size none))

  -- one version more wasn't kept
  pub one_stopped : {T : Type 0} (first : Archive A) (done : List FileVersion) (old new : Archive A) (v : FileVersion) (e : OldFault) → IsKeeping view first done old
      → HasMoved {T = T} view old new (with_version (gathering_of old) v) (Err e) → IsTrue (is_above (all_leaves old) v.node) × IsUnkept (all_leaves old) (whole_end old) v e → IsHalted view first (done ++ v ∷ []) new e
  one_stopped {T} first done old new v e h m cause = elim (disk_or e) [
    | inl is ↦
        let p = parted first.leaves done in
        let st = stepped first.leaves done v old.leaves old.gathered h.leaves_are h.gathered_are in
        let all : all_of (with_version (gathering_of old) v) ≡ kept_all first.leaves (done ++ v ∷ []) = (λ i. sym st.written i ++ sym st.gathered i) ∙ (parted first.leaves (done ++ v ∷ [])).all_is in
        let room : next_end (all_leaves old) (whole_end old) v < 2 ^ 39 = subst (IsUnkept (all_leaves old) (whole_end old) v) is cause.1 in
        let head : IsHead old.leaves old.end (p.behind ++ v ∷ []) = by_head room p.head in
        inl (is, batch_stopped {T = T} first done old new (with_version (gathering_of old) v) e (done ++ v ∷ []) (v ∷ []) h m refl all is head)
    | inr other ↦
        let gathered : new.gathered ≡ old.gathered = ⊎_elim (λ failed. absurd (other failed.0)) (λ same. same) m.gathered in
        let disk : new.disk ≡ old.disk = ⊎_elim (λ failed. absurd (other failed)) (λ same. same) m.untouched in
        let same : new ≡ old = λ i. record { disk = disk i; leaves = m.stays.0 i; end = m.stays.1 i; opened = m.opened i; gathered = gathered i } in
        inr (subst (λ (a : Archive A). IsInFrontOf view first (done ++ v ∷ []) a e) (sym same)
        (record { done = done; rest = v ∷ []; versions_are = refl; keeping = h; other = other; cause = inr (v, [], refl, cause.0, cause.1) }))
  ]
    where
      by_head : next_end (all_leaves old) (whole_end old) v < 2 ^ 39 → (((parted first.leaves done).behind ≡ []) × ((gathered_all first.leaves done).gathered ≡ [])) ⊎ IsFirst (gathered_all first.leaves done) (parted first.leaves done).behind
          → IsHead old.leaves old.end ((parted first.leaves done).behind ++ v ∷ [])
      by_head room (inl (none, no_leaves)) =
          let same = nothing_gathered old (h.gathered_are ∙ no_leaves) in (
            v,
            [],
            ap (λ (l : List FileVersion). l ++ v ∷ []) none,
            subst (λ (l : List Leaf). IsTrue (is_above l v.node)) same.0 cause.0,
            subst (λ (l : List Leaf). next_end l old.end v < 2 ^ 39) same.0 (subst (λ (n : ℕ). next_end (all_leaves old) n v < 2 ^ 39) same.1 room),
          )
      by_head room (inr f) = gathered_head first old done (v ∷ []) h f (omega (arith, room))

  -- nothing more was kept, for want of memory
  pub kept_stops : (first : Archive A) (done versions : List FileVersion) (now : Archive A) (e : OldFault) → IsKeeping view first done now → Begins done versions → e ≡ faults.NoMemory → IsHalted view first versions now e
  kept_stops first done versions now e h b is = inr (record { done = done; rest = b.0; versions_are = b.1; keeping = h; other = λ failed. cc (failed, is); cause = inl is })

  stopped_longer : (first : Archive A) (done versions : List FileVersion) (now : Archive A) (e : OldFault) → HasStopped view first done now e → Begins done versions → HasStopped view first versions now e
  stopped_longer first done versions now e h b = record {
    done = h.done;
    rest = h.rest ++ b.0;
    versions_are = b.1 ∙ ap (λ (l : List FileVersion). l ++ b.0) h.versions_are ∙ append_assoc h.done h.rest b.0;
    leaves_are = h.leaves_are;
    cause = stop_on now.leaves now.end h.rest b.0 e h.cause;
    batch = h.batch;
    batch_is = begins_on h.batch h.rest (h.rest ++ b.0) h.batch_is (begins_more h.rest b.0);
    no_batch = h.no_batch;
    opened_is = h.opened_is;
    work = h.work;
    moments = λ tells. adds_weaker (λ c. HasSome first.leaves versions c.log) (view first.disk) (view now.disk) (h.moments tells) (λ c x. some_on first.leaves done versions c.log b x);
    since = λ tells alive.
        since_on (view first.disk) (view now.disk) first.leaves done versions (length h.done) b (omega (arith, ap length h.versions_are, length-append h.done h.rest)) (h.since tells alive);
    late = h.late;
    crash = h.crash;
    store = h.store;
  }

  -- more versions were to come
  pub stopped_on : (first : Archive A) (done versions : List FileVersion) (now : Archive A) (e : OldFault) → IsHalted view first done now e → Begins done versions → IsHalted view first versions now e
  stopped_on first done versions now e (inl (is, h)) b = inl (is, stopped_longer first done versions now e h b)
  stopped_on first done versions now e (inr h) b = inr (record {
    done = h.done;
    rest = h.rest ++ b.0;
    versions_are = b.1 ∙ ap (λ (l : List FileVersion). l ++ b.0) h.versions_are ∙ append_assoc h.done h.rest b.0;
    keeping = h.keeping;
    other = h.other;
    cause = stop_on (all_leaves now) (whole_end now) h.rest b.0 e h.cause;
  })

  -- what is gathered in the end

  settled_facts : (first : Archive A) (done : List FileVersion) (old : Archive A) → IsKeeping view first done old → IsSettledFrom old.leaves old.gathered 0
      → ((settled (gathering_of old)).written ≡ all_leaves old) × ((settled (gathering_of old)).gathered ≡ []) × ((settled (gathering_of old)).batches ≡ 0 → (settled (gathering_of old)).written ≡ old.leaves)
  settled_facts first done old h (inl (some, is)) =
      (ap (λ (g : Gathering). g.written) is, ap (λ (g : Gathering). g.gathered) is, λ none. absurd (omega (arith, none, ap (λ (g : Gathering). g.batches) is)))
  settled_facts first done old h (inr (none, is)) = (
    ap (λ (g : Gathering). g.written) is ∙ sym (nothing_gathered old none).0,
    ap (λ (g : Gathering). g.gathered) is ∙ none,
    λ zero. ap (λ (g : Gathering). g.written) is,
  )

  -- the batches with the last one
  last_batches : (first : Archive A) (done : List FileVersion) (old : Archive A) → IsKeeping view first done old
      → (settled (gathered_all first.leaves done)).batches ≡ (gathered_all first.leaves done).batches + (settled (gathering_of old)).batches
  last_batches first done old h =
      let g = gathered_all first.leaves done in
      let same : settled g ≡ settled (record { written = old.leaves; gathered = old.gathered; batches = g.batches }) =
      λ i. settled (record { written = sym h.leaves_are i; gathered = sym h.gathered_are i; batches = g.batches }) in
      both g.batches (ap (λ (x : Gathering). x.batches) same) (settled_from old.leaves old.gathered g.batches) (settled_from old.leaves old.gathered 0)
    where
      both : (n : ℕ) → (settled (gathered_all first.leaves done)).batches ≡ (settled (record { written = old.leaves; gathered = old.gathered; batches = n })).batches → IsSettledFrom old.leaves old.gathered n
          → IsSettledFrom old.leaves old.gathered 0 → (settled (gathered_all first.leaves done)).batches ≡ n + (settled (gathering_of old)).batches
      both n same (inl (some, a)) (inl (more, b)) = omega (arith, same, ap (λ (g : Gathering). g.batches) a, ap (λ (g : Gathering). g.batches) b)
      both n same (inr (none, a)) (inr (nothing, b)) = omega (arith, same, ap (λ (g : Gathering). g.batches) a, ap (λ (g : Gathering). g.batches) b)
      both n same (inl (some, a)) (inr (nothing, b)) = absurd (omega (arith, some, ap length nothing))
      both n same (inr (none, a)) (inl (more, b)) = absurd (omega (arith, more, ap length none))

  settled_all : (first : Archive A) (done : List FileVersion) (old : Archive A) → IsKeeping view first done old → all_of (settled (gathering_of old)) ≡ kept_all first.leaves done
  settled_all first done old h =
      let f = settled_facts first done old h (settled_from old.leaves old.gathered 0) in
      (λ i. f.0 i ++ f.1 i) ∙ append-nil (all_leaves old) ∙ (λ i. h.leaves_are i ++ h.gathered_are i) ∙ (parted first.leaves done).all_is

  pub settle_keeps : {T : Type 0} (first : Archive A) (done : List FileVersion) (old new : Archive A) (x : T) → IsKeeping view first done old → HasMoved view old new (settled (gathering_of old)) (Ok x) → HasKept view first done new
  settle_keeps {T} first done old new x h m =
      let goal = settled (gathering_of old) in
      let f = settled_facts first done old h (settled_from old.leaves old.gathered 0) in
      let all = settled_all first done old h in
      let work = no_fault_as (view old.disk) (view new.disk) x m.work in
      let leaves : new.leaves ≡ kept_all first.leaves done = m.moved.0 ∙ f.0 ∙ (λ i. h.leaves_are i ++ h.gathered_are i) ∙ (parted first.leaves done).all_is in
      record {
        leaves_are = leaves;
        none_gathered = m.moved.1 ∙ f.1;
        opened_is = m.opened ∙ h.opened_is;
        healthy = omega (arith, h.healthy, work.no_fault (λ none. none), m.opened);
        work = work_both (view first.disk) (view old.disk) (view new.disk) ⊥ h.work work;
        moments = step_moments first done old new h goal (Ok x) m done (begins_itself done) all;
        calls = omega (arith, m.calls, h.calls, last_batches first done old h);
        since = step_since first done old new h goal (Ok x) m done (begins_itself done) all;
        late = step_late first done old new h goal x m f.2;
        crash = step_crash first done old new h goal x m f.2;
        store = leaves_more (view first.disk) (view old.disk) (view new.disk) h.work.tells h.store m.store;
      }

  pub settle_stops : {T : Type 0} (first : Archive A) (done : List FileVersion) (old new : Archive A) (e : OldFault) → IsKeeping view first done old → HasMoved {T = T} view old new (settled (gathering_of old)) (Err e)
      → (e ≡ faults.DiskFault) × (whole_end old < 2 ^ 39) → HasStopped view first done new e
  settle_stops {T} first done old new e h m cause =
      let p = parted first.leaves done in
      let goal = settled (gathering_of old) in
      batch_stopped {T = T} first done old new goal e done [] h m (sym (append-nil done)) (settled_all first done old h) cause.0 (by_head (m.tried cause.0) p.head)
    where
      by_head : 1 ≤ (settled (gathering_of old)).batches → (((parted first.leaves done).behind ≡ []) × ((gathered_all first.leaves done).gathered ≡ [])) ⊎ IsFirst (gathered_all first.leaves done) (parted first.leaves done).behind
          → IsHead old.leaves old.end ((parted first.leaves done).behind ++ [])
      by_head some (inl (none, no_leaves)) =
          let here : old.gathered ≡ [] = h.gathered_are ∙ no_leaves in
          let zero : (settled (gathering_of old)).batches ≡ 0 = ap (λ (l : List Leaf). (settled (record { written = old.leaves; gathered = l; batches = 0 })).batches) here in
          absurd (omega (arith, some, zero))
      by_head some (inr f) = gathered_head first old done [] h f cause.1

  -- after another fault the leaves that are gathered are written
  pub halt_stops : {T : Type 0} (first : Archive A) (versions : List FileVersion) (old new : Archive A) (e : OldFault) (x : T) → IsInFrontOf view first versions old e → HasMoved view old new (settled (gathering_of old)) (Ok x)
      → new.end ≡ whole_end old → HasStopped view first versions new e
  halt_stops {T} first versions old new e x f m end =
      let k = settle_keeps first f.done old new x f.keeping m in
      let s = settled_facts first f.done old f.keeping (settled_from old.leaves old.gathered 0) in
      let on : Begins f.done versions = (f.rest, f.versions_are) in
      let leaves : new.leaves ≡ all_leaves old = m.moved.0 ∙ s.0 in
      record {
        done = f.done;
        rest = f.rest;
        versions_are = f.versions_are;
        leaves_are = k.leaves_are;
        cause = subst (λ (l : List Leaf). IsStop l new.end f.rest e) (sym leaves) (subst (λ (n : ℕ). IsStop (all_leaves old) n f.rest e) (sym end) f.cause);
        batch = [];
        batch_is = (f.rest, refl);
        no_batch = inl refl;
        opened_is = k.opened_is;
        work = work_as (view first.disk) (view new.disk) ⊥ (e ≡ faults.DiskFault) (λ is. f.other is) (λ none. absurd none) k.work;
        moments = λ tells. adds_weaker (λ c. HasSome first.leaves versions c.log) (view first.disk) (view new.disk) (k.moments tells) (λ c s. some_on first.leaves f.done versions c.log on s);
        since = λ tells alive. since_on (view first.disk) (view new.disk) first.leaves f.done versions (length f.done) on (omega arith) (k.since tells alive);
        late = inr k.late;
        crash = λ tells alive c may. (new.end, inl (k.crash tells alive c may));
        store = k.store;
      }

  pub halt_fails : {T : Type 0} (first : Archive A) (versions : List FileVersion) (old new : Archive A) (e failed : OldFault) → IsInFrontOf view first versions old e → HasMoved {T = T} view old new (settled (gathering_of old)) (Err failed)
      → (failed ≡ faults.DiskFault) × (whole_end old < 2 ^ 39) → HasStopped view first versions new failed
  halt_fails {T} first versions old new e failed f m cause = stopped_longer first f.done versions new failed (settle_stops {T = T} first f.done old new failed f.keeping m cause) (f.rest, f.versions_are)

-- what stands in front of the whole
pub map_front : {X : Type 0} (f : X → FileVersion) (done : List FileVersion) (xs : List X) (i : ℕ) → Begins (done ++ map f (take i xs)) (done ++ map f xs)
map_front f done xs zero = (map f xs, ap (λ (l : List FileVersion). l ++ map f xs) (sym (append-nil done)))
map_front f done [] (suc i) = ([], sym (append-nil (done ++ [])))
map_front f done (x ∷ xs) (suc i) =
    let rest = map_front f (done ++ f x ∷ []) xs i in
    (rest.0, sym (append_assoc done (f x ∷ []) (map f xs)) ∙ rest.1 ∙ ap (λ (l : List FileVersion). l ++ rest.0) (append_assoc done (f x ∷ []) (map f (take i xs))))

pub flat_front : {X : Type 0} (f : X → List FileVersion) (done : List FileVersion) (xs : List X) (i : ℕ) → Begins (done ++ flat_map f (take i xs)) (done ++ flat_map f xs)
flat_front f done xs zero = (flat_map f xs, ap (λ (l : List FileVersion). l ++ flat_map f xs) (sym (append-nil done)))
flat_front f done [] (suc i) = ([], sym (append-nil (done ++ [])))
flat_front f done (x ∷ xs) (suc i) =
    let rest = flat_front f (done ++ f x) xs i in
    (rest.0, sym (append_assoc done (f x) (flat_map f xs)) ∙ rest.1 ∙ ap (λ (l : List FileVersion). l ++ rest.0) (append_assoc done (f x) (flat_map f (take i xs))))

-- one version more of those that are kept in a row
pub map_next : {X : Type 0} (f : X → FileVersion) (done : List FileVersion) (xs : List X) (i : ℕ) (x : X) → i < length xs → x ≡ get_or xs i x → (done ++ map f (take i xs)) ++ f x ∷ [] ≡ done ++ map f (take (i + 1) xs)
map_next f done xs i x lt is =
    append_assoc done (map f (take i xs)) (f x ∷ [])
    ∙ ap (λ y. done ++ (map f (take i xs) ++ f y ∷ [])) is
    ∙ ap (λ (l : List FileVersion). done ++ l) (sym (map_more f xs i x lt))

pub flat_next : {X : Type 0} (f : X → List FileVersion) (done : List FileVersion) (xs : List X) (i : ℕ) (x : X) → i < length xs → x ≡ get_or xs i x → (done ++ flat_map f (take i xs)) ++ f x ≡ done ++ flat_map f (take (i + 1) xs)
flat_next f done xs i x lt is =
    append_assoc done (flat_map f (take i xs)) (f x)
    ∙ ap (λ (l : List FileVersion). done ++ (flat_map f (take i xs) ++ l)) (sym (append-nil (f x)))
    ∙ ap (λ (l : List FileVersion). done ++ l) (sym (flat_map-append f (take i xs) (x ∷ [])))
    ∙ ap (λ y. done ++ flat_map f (take i xs ++ y ∷ [])) is
    ∙ ap (λ l. done ++ flat_map f l) (sym (take_more xs i x lt))

-- the versions that the first entries end
pub ended_next : (session : Session) (past : List Entry) (e : Entry) → ended_versions session (past ++ e ∷ []) ≡ ended_versions session past ++ ended_by session past e
ended_next session past e = replay-append (λ past list e. list ++ ended_by session past e) [] [] past e

pub ended_front : (session : Session) (past more : List Entry) → Begins (ended_versions session past) (ended_versions session (past ++ more))
ended_front session past [] = subst (λ (l : List Entry). Begins (ended_versions session past) (ended_versions session l)) (sym (append-nil past)) (begins_itself (ended_versions session past))
ended_front session past (e ∷ more) =
    let rest = ended_front session (past ++ e ∷ []) more in
    begins_on (ended_versions session past) (ended_versions session (past ++ e ∷ [])) (ended_versions session (past ++ e ∷ more))
    (ended_by session past e, ended_next session past e)
    (subst (λ (l : List Entry). Begins (ended_versions session (past ++ e ∷ [])) (ended_versions session l)) (append_assoc past (e ∷ []) more) rest)

pub begins_behind : (front done versions : List FileVersion) → Begins done versions → Begins (front ++ done) (front ++ versions)
begins_behind front done versions b = (b.0, ap (λ (l : List FileVersion). front ++ l) b.1 ∙ sym (append_assoc front done b.0))

-- what an entry ends

pub ended_not : (session : Session) (past : List Entry) (e : Entry) → (is_file_in (registry_after session past) e.what && is_freeze session past (nodes_of session past) e) ≡ false → ended_by session past e ≡ []
ended_not session past e none = ap (λ (b : Bool). if b then version_of session past e.what ∷ [] else []) none

pub ended_one : (session : Session) (past : List Entry) (e : Entry) → (is_file_in (registry_after session past) e.what && is_freeze session past (nodes_of session past) e) ≡ true
    → ended_by session past e ≡ version_of session past e.what ∷ []
ended_one session past e one = ap (λ (b : Bool). if b then version_of session past e.what ∷ [] else []) one

-- with one entry more
pub ended_take : (session : Session) (history : List Entry) (place : ℕ) (e : Entry) (done : List FileVersion) → take (place + 1) history ≡ take place history ++ e ∷ []
    → (done ++ ended_versions session (take place history)) ++ ended_by session (take place history) e ≡ done ++ ended_versions session (take (place + 1) history)
ended_take session history place e done more =
    append_assoc done (ended_versions session (take place history)) (ended_by session (take place history) e)
    ∙ ap (λ (l : List FileVersion). done ++ l) (sym (ended_next session (take place history) e) ∙ ap (ended_versions session) (sym more))

pub ended_begins : (session : Session) (history : List Entry) (place : ℕ) (done : List FileVersion) → Begins (done ++ ended_versions session (take place history)) (done ++ ended_versions session history)
ended_begins session history place done =
    begins_behind done (ended_versions session (take place history)) (ended_versions session history)
    (subst (λ (h : List Entry). Begins (ended_versions session (take place history)) (ended_versions session h)) (take-append-drop place history) (ended_front session (take place history) (drop place history)))

-- the same of each fault
pub err_weaker : {T E : Type 0} (r : Result T E) (P Q : E → Type 0) → ((e : E) → P e → Q e) → IfErr r P → IfErr r Q
err_weaker (Ok x) P Q f p = tt
err_weaker (Err e) P Q f p = f e p
