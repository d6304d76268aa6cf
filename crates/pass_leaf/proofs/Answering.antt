-- What the calls of an open archive answer.
use Rattle.std.proofs.Common.{◌≡◌, ◌≢◌, ℕ, ◌+◌, ◌<◌, ◌≤◌, Bool, true, false, List, [], ◌∷◌, ◌++◌, length, take, drop, Result, Ok, Err, IsTrue, inl, inr, refl, sym, ◌∙◌, ap, subst, arith, append_assoc, length-append}
use Rattle.std.specs.Prelude.{if◌then◌else◌, nat_lt, nat_le, IsErrOf}
use Rattle.std.proofs.lemmas.Bool.Decides.{nat_tests}
use Rattle.std.proofs.lemmas.List.{append-nil, take-append-le, drop-append-le}
use Rattle.pass_outside.specs.Areas.{Image}
use Rattle.pass_outside.specs.Moments.{Moment, Adds, IsDeviceWork}
use Rattle.pass_outside.specs.Runs.{adds_nothing}
use Rattle.pass_log.specs.Log.{LeavesStore}
use Rattle.pass_log.proofs.Append.{leaves_none}
use Rattle.pass_log.specs.declared.fault.LogFault.{LogFault}
use Rattle.pass_log.specs.declared.fault.LogFault.TheVariants as log_faults
use Rattle.pass_leaf.specs.declared.fault.OldFault.{OldFault}
use Rattle.pass_leaf.specs.declared.fault.OldFault.TheVariants as faults
use Rattle.pass_leaf.specs.declared.tail.Tail.{Tail}
use Rattle.pass_leaf.specs.Leaves.{Leaf, IsFormed}
use Rattle.pass_leaf.specs.Contents.{last_content, last_version, AreLeaves}
use Rattle.pass_leaf.specs.Keeping.{leaf_from, FileVersion, is_above, kept_with}
use Rattle.pass_leaf.specs.Gatherings.{frames_size, batch_size, Gathering, all_of, with_batch, with_gathered, with_leaf, with_version, settled}
use Rattle.pass_leaf.specs.Archives.{Archive, IsArchive}
use Rattle.pass_leaf.specs.Reads.{IsBatch, IsGathered}
use Rattle.pass_leaf.specs.Open.{gathering_of, all_leaves, whole_end, with_next, next_end, IsOneOf, HasMoved, HasAppended}
use Rattle.pass_leaf.proofs.Appending.{frames_size-append}
use Rattle.pass_leaf.proofs.Lists.{are-push}

-- tests of numbers

pub above_not : (m n : ℕ) → n ≤ m → nat_lt m n ≡ false
above_not m n le = grind (arith, nat_tests)

pub above_is : (m n : ℕ) → m < n → nat_lt m n ≡ true
above_is m n lt = grind (arith, nat_tests)

pub above_lt : (m n : ℕ) → IsTrue (nat_lt m n) → m < n
above_lt m n above = grind (arith, nat_tests)

full_is : (m n : ℕ) → m ≤ n → nat_le m n ≡ true
full_is m n le = grind (arith, nat_tests)

full_not : (m n : ℕ) → n < m → nat_le m n ≡ false
full_not m n lt = grind (arith, nat_tests)

-- what a device did

pub work_none : (m : Moment) (failed : Type 0) → (failed → ⊥) → IsDeviceWork m m failed
work_none m failed none = record { tells = refl; rises = omega arith; later = omega arith; fault = λ f. absurd (none f); no_fault = λ _. refl }

pub work_as : (old new : Moment) (failed other : Type 0) → (other → failed) → (failed → other) → IsDeviceWork old new failed → IsDeviceWork old new other
work_as old new failed other to back w = record { tells = w.tells; rises = w.rises; later = w.later; fault = λ x. w.fault (to x); no_fault = λ none. w.no_fault (λ f. none (back f)) }

-- the device's work, where another type is answered
abbrev as_err : {S : Type 0} → OldFault → Result S OldFault
as_err x = Err x

err_to : {S : Type 0} (e : OldFault) → e ≡ faults.DiskFault → IsErrOf {T = S} (Err e) faults.DiskFault
err_to {S} e is = ap (as_err {S = S}) is

work_ok : {S T : Type 0} (old new : Moment) (x : S) (y : T) → IsDeviceWork old new (IsErrOf (Ok x) faults.DiskFault) → IsDeviceWork old new (IsErrOf (Ok y) faults.DiskFault)
work_ok {S} {T} old new x y w = work_as old new (IsErrOf (Ok x) faults.DiskFault) (IsErrOf (Ok y) faults.DiskFault) (λ e. absurd (cc e)) (λ e. absurd (cc e)) w

work_err : {S T : Type 0} (old new : Moment) (e : OldFault) → IsDeviceWork old new (IsErrOf {T = S} (Err e) faults.DiskFault) → IsDeviceWork old new (IsErrOf {T = T} (Err e) faults.DiskFault)
work_err {S} {T} old new e w = work_as old new (IsErrOf {T = S} (Err e) faults.DiskFault) (IsErrOf {T = T} (Err e) faults.DiskFault) (λ h. err_to {S = S} e (cc h)) (λ h. err_to {S = T} e (cc h)) w

abbrev log_err : {S : Type 0} → LogFault → Result S LogFault
log_err f = Err f

-- the device's work, where the fault is told by another type
pub work_read_ok : {S T : Type 0} (old new : Moment) (x : S) (y : T) → IsDeviceWork old new (IsErrOf (Ok x) log_faults.DiskFault) → IsDeviceWork old new (IsErrOf (Ok y) faults.DiskFault)
work_read_ok {S} {T} old new x y w = work_as old new (IsErrOf (Ok x) log_faults.DiskFault) (IsErrOf (Ok y) faults.DiskFault) (λ e. absurd (cc e)) (λ e. absurd (cc e)) w

pub work_read_err : {S T : Type 0} (old new : Moment) (f : LogFault) (e : OldFault) → (f ≡ log_faults.DiskFault → e ≡ faults.DiskFault) → (e ≡ faults.DiskFault → f ≡ log_faults.DiskFault)
    → IsDeviceWork old new (IsErrOf {T = S} (Err f) log_faults.DiskFault) → IsDeviceWork old new (IsErrOf {T = T} (Err e) faults.DiskFault)
work_read_err {S} {T} old new f e to back w = work_as old new (IsErrOf {T = S} (Err f) log_faults.DiskFault) (IsErrOf {T = T} (Err e) faults.DiskFault)
    (λ h. ap (log_err {S = S}) (back (cc h))) (λ h. err_to {S = T} e (to (cc h))) w

-- what is gathered

pub gathered_size : (bytes : List ℕ) (leaves : List Leaf) → IsGathered bytes leaves → length bytes ≡ frames_size leaves
gathered_size bytes leaves (inl (none, no_leaves)) = ap length none ∙ sym (ap frames_size no_leaves)
gathered_size bytes leaves (inr b) = b.size

-- frames that are there are those of a leaf
gathered_some : (leaves : List Leaf) → 0 < frames_size leaves → 0 < length leaves
gathered_some [] some = absurd (omega (arith, some))
gathered_some (leaf ∷ leaves) some = omega arith

pub settled_none : (g : Gathering) → g.gathered ≡ [] → settled g ≡ g
settled_none g none = ap (λ (l : List Leaf). if nat_lt 0 (length l) then with_batch g else g) none

pub settled_some : (g : Gathering) → 0 < frames_size g.gathered → settled g ≡ with_batch g
settled_some g some = ap (λ (b : Bool). if b then with_batch g else g) (above_is 0 (length g.gathered) (gathered_some g.gathered some))

pub batch_some : (bytes : List ℕ) (leaves : List Leaf) → 0 < length bytes → IsGathered bytes leaves → IsBatch bytes leaves
batch_some bytes leaves some (inl (none, no_leaves)) = absurd (omega (arith, ap length none, some))
batch_some bytes leaves some (inr b) = b

-- one version more

abbrev pub next_of : List Leaf → FileVersion → Leaf
next_of leaves v = leaf_from (last_content leaves v.node.pnode) v.node v.bytes

pub kept_above : (leaves : List Leaf) (v : FileVersion) → last_version leaves v.node.pnode < v.node.version → kept_with leaves v ≡ leaves ++ next_of leaves v ∷ []
kept_above leaves v above = ap (λ (b : Bool). if b then leaves ++ next_of leaves v ∷ [] else leaves) (above_is (last_version leaves v.node.pnode) v.node.version above)

pub version_below : (g : Gathering) (v : FileVersion) → v.node.version ≤ last_version (all_of g) v.node.pnode → with_version g v ≡ g
version_below g v below = ap (λ (b : Bool). if b then with_leaf g (next_of (all_of g) v) else g) (above_not (last_version (all_of g) v.node.pnode) v.node.version below)

pub version_above : (g : Gathering) (v : FileVersion) → IsTrue (is_above (all_of g) v.node) → with_version g v ≡ with_leaf g (next_of (all_of g) v)
version_above g v above = ap (λ (b : Bool). if b then with_leaf g (next_of (all_of g) v) else g) above

pub leaf_small : (g : Gathering) (leaf : Leaf) → frames_size (g.gathered ++ leaf ∷ []) < batch_size → with_leaf g leaf ≡ with_gathered g leaf
leaf_small g leaf small = ap (λ (b : Bool). if b then with_batch (with_gathered g leaf) else with_gathered g leaf) (full_not batch_size (frames_size (g.gathered ++ leaf ∷ [])) small)

pub leaf_full : (g : Gathering) (leaf : Leaf) → batch_size ≤ frames_size (g.gathered ++ leaf ∷ []) → with_leaf g leaf ≡ with_batch (with_gathered g leaf)
leaf_full g leaf full = ap (λ (b : Bool). if b then with_batch (with_gathered g leaf) else with_gathered g leaf) (full_is batch_size (frames_size (g.gathered ++ leaf ∷ [])) full)

-- the leaves, of which the first ones are on the disk, with one more
pub grown : (w v : ℕ) (leaves more : List Leaf) (leaf : Leaf) → w ≤ length leaves → v ≡ w → more ≡ leaves ++ leaf ∷ [] → (take v more ≡ take w leaves) × (drop v more ≡ drop w leaves ++ leaf ∷ [])
grown w v leaves more leaf few written is = (
  (λ i. take (written i) (is i)) ∙ take-append-le w leaves (leaf ∷ []) few,
  (λ i. drop (written i) (is i)) ∙ drop-append-le w leaves (leaf ∷ []) few,
)

pub next_end-more : {A : Type 0} (a : Archive A) (v : FileVersion) → whole_end (with_next a v) ≡ next_end (all_leaves a) (whole_end a) v
next_end-more a v = omega (arith, frames_size-append a.gathered (next_of (all_leaves a) v ∷ []))

module _ {A : Type 0} (view : A → Moment) where
  -- no batch is written
  pub moved_still : {T : Type 0} (a : Archive A) (more : List Leaf) (goal : Gathering) (x : T) → a.leaves ≡ goal.written → more ≡ goal.gathered → goal.batches ≡ 0
      → HasMoved view a (record { disk = a.disk; leaves = a.leaves; end = a.end; opened = a.opened; gathered = more }) goal (Ok x)
  moved_still {T} a more goal x written gathered none = record {
    opened = refl;
    moved = (written, gathered);
    stays = tt;
    gathered = tt;
    calls = omega (arith, none);
    alone = λ _. (refl, refl);
    tried = tt;
    untouched = tt;
    acknowledged = λ some. absurd (omega (arith, some, none));
    since = λ some. absurd (omega (arith, some, none));
    any_moment = λ tells. adds_nothing (view a.disk) (λ c. IsOneOf a.leaves (all_of goal) c.log);
    crash = λ tells known c may. (a.end, inl (known c may));
    store = leaves_none (view a.disk);
    work = work_none (view a.disk) (IsErrOf (Ok x) faults.DiskFault) (λ e. cc e);
  }

  -- nothing has moved
  pub moved_not : {T : Type 0} (a : Archive A) (goal : Gathering) (e : OldFault) → e ≢ faults.DiskFault → HasMoved {T = T} view a a goal (Err e)
  moved_not {T} a goal e other = record {
    opened = refl;
    moved = tt;
    stays = (refl, refl);
    gathered = inr refl;
    calls = tt;
    alone = λ _. (refl, refl);
    tried = λ is. absurd (other is);
    untouched = inr refl;
    acknowledged = tt;
    since = tt;
    any_moment = λ tells. adds_nothing (view a.disk) (λ c. IsOneOf a.leaves (all_of goal) c.log);
    crash = λ tells known c may. (a.end, inl (known c may));
    store = leaves_none (view a.disk);
    work = work_none (view a.disk) (IsErrOf {T = T} (Err e) faults.DiskFault) (λ f. other (cc f));
  }

  -- a batch is written
  pub moved_batch : {S T : Type 0} (old new : Archive A) (tail next : Tail) (x : S) (y : T) → HasAppended (view old.disk) (view new.disk) tail next old.leaves old.gathered (Ok x) → tail.end ≡ old.end → new.end ≡ next.end
      → new.opened ≡ old.opened → new.leaves ≡ all_leaves old → new.gathered ≡ [] → LeavesStore (view old.disk) (view new.disk) → IsDeviceWork (view old.disk) (view new.disk) (IsErrOf (Ok x) faults.DiskFault)
      → (view new.disk).calls ≡ (view old.disk).calls + 4 → ((c : Image) → (view new.disk).left_since (view new.disk).calls c → (view new.disk).may_leave c) → HasMoved view old new (with_batch (gathering_of old)) (Ok y)
  moved_batch {S} {T} old new tail next x y h place end opened leaves none store work four since = record {
    opened = opened;
    moved = (leaves, none);
    stays = tt;
    gathered = tt;
    calls = omega (arith, four);
    alone = λ zero. absurd (omega (arith, zero));
    tried = tt;
    untouched = tt;
    acknowledged = λ some tells c may. left tells c may;
    since = λ some tells c late. left tells c (since c late);
    any_moment = λ tells. subst (λ (l : List Leaf). Adds (view old.disk) (view new.disk) (λ c. IsOneOf old.leaves l c.log)) (sym (append-nil (all_leaves old))) (h.any_moment tells);
    crash = λ tells known c may. subst (λ (l : List Leaf). IsOneOf old.leaves l c.log) (sym (append-nil (all_leaves old)))
        (h.crash tells (λ d m. subst (IsArchive d.log old.leaves) (sym place) (known d m)) c may);
    store = store;
    work = work_ok (view old.disk) (view new.disk) x y work;
  }
    where
      left : IsTrue (view old.disk).tells → (c : Image) → (view new.disk).may_leave c → IsArchive c.log new.leaves new.end
      left tells c may = subst (λ (l : List Leaf). IsArchive c.log l new.end) (sym leaves) (subst (IsArchive c.log (all_leaves old)) (sym end) (h.acknowledged tells c may))

  -- its writing failed
  pub batch_failed : {S T : Type 0} (old new : Archive A) (tail next : Tail) (e : OldFault) → HasAppended {T = S} (view old.disk) (view new.disk) tail next old.leaves old.gathered (Err e) → tail.end ≡ old.end → e ≡ faults.DiskFault
      → new.opened ≡ old.opened → new.leaves ≡ old.leaves → new.gathered ≡ old.gathered → new.end ≡ old.end → LeavesStore (view old.disk) (view new.disk)
      → IsDeviceWork (view old.disk) (view new.disk) (IsErrOf {T = S} (Err e) faults.DiskFault) → HasMoved {T = T} view old new (with_batch (gathering_of old)) (Err e)
  batch_failed {S} {T} old new tail next e h place is opened leaves gathered end store work = record {
    opened = opened;
    moved = tt;
    stays = (leaves, end);
    gathered = inl (is, (λ i. leaves i ++ gathered i) ∙ sym (append-nil (all_leaves old)));
    calls = tt;
    alone = λ zero. absurd (omega (arith, zero));
    tried = λ _. omega arith;
    untouched = inl is;
    acknowledged = tt;
    since = tt;
    any_moment = λ tells. subst (λ (l : List Leaf). Adds (view old.disk) (view new.disk) (λ c. IsOneOf old.leaves l c.log)) (sym (append-nil (all_leaves old))) (h.any_moment tells);
    crash = λ tells known c may. subst (λ (l : List Leaf). IsOneOf old.leaves l c.log) (sym (append-nil (all_leaves old)))
        (h.crash tells (λ d m. subst (IsArchive d.log old.leaves) (sym place) (known d m)) c may);
    store = store;
    work = work_err {S = S} {T = T} (view old.disk) (view new.disk) e work;
  }

  -- the same of an archive with one leaf less gathered
  pub moved_over : {S T : Type 0} (old new : Archive A) (v : FileVersion) (goal : Gathering) (x : S) (y : T) → HasMoved view (with_next old v) new goal (Ok x) → HasMoved view old new goal (Ok y)
  moved_over {S} {T} old new v goal x y h = record {
    opened = h.opened;
    moved = h.moved;
    stays = tt;
    gathered = tt;
    calls = h.calls;
    alone = h.alone;
    tried = tt;
    untouched = tt;
    acknowledged = h.acknowledged;
    since = h.since;
    any_moment = h.any_moment;
    crash = h.crash;
    store = h.store;
    work = work_ok (view old.disk) (view new.disk) x y h.work;
  }

  pub failed_over : {S T : Type 0} (old mid new : Archive A) (v : FileVersion) (e : OldFault) → mid ≡ with_next old v → HasMoved {T = S} view mid new (with_batch (gathering_of mid)) (Err e) → e ≡ faults.DiskFault
      → all_leaves new ≡ all_leaves mid → HasMoved {T = T} view old new (with_batch (gathering_of (with_next old v))) (Err e)
  failed_over {S} {T} old mid new v e same moved is all =
      let h : HasMoved {T = S} view (with_next old v) new (with_batch (gathering_of (with_next old v))) (Err e) =
      subst (λ (x : Archive A). HasMoved {T = S} view x new (with_batch (gathering_of x)) (Err e)) same moved in
      record {
        opened = h.opened;
        moved = tt;
        stays = h.stays;
        gathered = inl (is, all ∙ ap all_leaves same ∙ sym (append-nil (all_leaves (with_next old v))));
        calls = tt;
        alone = h.alone;
        tried = h.tried;
        untouched = h.untouched;
        acknowledged = tt;
        since = tt;
        any_moment = h.any_moment;
        crash = h.crash;
        store = h.store;
        work = work_err {S = S} {T = T} (view old.disk) (view new.disk) e h.work;
      }

-- the next leaf may stand behind the others
pub next_are : (leaves : List Leaf) (v : FileVersion) (leaf : Leaf) → leaf ≡ next_of leaves v → AreLeaves leaves → IsFormed leaf → last_version leaves v.node.pnode < v.node.version → AreLeaves (leaves ++ leaf ∷ [])
next_are leaves v leaf is are formed above =
    are-push leaves leaf are formed (subst (λ (l : Leaf). last_version leaves l.node.pnode < l.node.version) (sym is) above)

-- all leaves, with one version more

all_leaf : (g : Gathering) (leaf : Leaf) → all_of (with_leaf g leaf) ≡ all_of g ++ leaf ∷ []
all_leaf g leaf = by_full (nat_le batch_size (frames_size (g.gathered ++ leaf ∷ [])))
  where
    by_full : (b : Bool) → all_of (if b then with_batch (with_gathered g leaf) else with_gathered g leaf) ≡ all_of g ++ leaf ∷ []
    by_full true = append-nil (all_of (with_gathered g leaf)) ∙ sym (append_assoc g.written g.gathered (leaf ∷ []))
    by_full false = sym (append_assoc g.written g.gathered (leaf ∷ []))

pub all_version : (g : Gathering) (v : FileVersion) → all_of (with_version g v) ≡ kept_with (all_of g) v
all_version g v = by_above (is_above (all_of g) v.node)
  where
    by_above : (b : Bool) → all_of (if b then with_leaf g (next_of (all_of g) v) else g) ≡ (if b then all_of g ++ next_of (all_of g) v ∷ [] else all_of g)
    by_above true = all_leaf g (next_of (all_of g) v)
    by_above false = refl

pub none_gathered : (bytes : List ℕ) (leaves : List Leaf) → bytes ≡ [] → IsGathered bytes leaves → leaves ≡ []
none_gathered bytes leaves none (inl (nothing, no_leaves)) = no_leaves
none_gathered bytes leaves none (inr b) = absurd (omega (arith, ap length none, ap length b.is, length-append b.body (0 ∷ [])))
