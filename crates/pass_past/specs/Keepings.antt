-- What an archive has while versions are kept, and what a crash leaves of it.
use Rattle.std.specs.Prelude.{ℕ, ◌+◌, ◌*◌, ◌≤◌, ◌≡◌, ◌≢◌, ◌⊎◌, List, [], ◌∷◌, ◌++◌, length, take, fold, IsTrue}
use Rattle.pass_outside.specs.Areas.{Image}
use Rattle.pass_outside.specs.Moments.{Moment, IsAtEnd, Adds, IsDeviceWork}
use Rattle.pass_log.specs.Log.{LeavesStore}
use Rattle.pass_leaf.specs.declared.fault.OldFault.{OldFault}
use Rattle.pass_leaf.specs.declared.fault.OldFault.TheVariants as faults
use Rattle.pass_leaf.specs.Leaves.{Leaf}
use Rattle.pass_leaf.specs.Keeping.{FileVersion, is_above, kept_all}
use Rattle.pass_leaf.specs.Gatherings.{Gathering, with_version, settled}
use Rattle.pass_leaf.specs.Archives.{Archive, IsArchive}
use Rattle.pass_leaf.specs.Open.{all_leaves, whole_end, IsOneOf, IsUnkept}

-- the list begins with the first one
abbrev pub Begins : List FileVersion → List FileVersion → Type 0
Begins done versions = (more : List FileVersion) × (versions ≡ done ++ more)

-- a log area has the leaves that were there, and those of some of the first versions
abbrev pub HasSome : List Leaf → List FileVersion → List ℕ → Type 0
HasSome leaves versions log = (done : List FileVersion) × Begins done versions × ((end : ℕ) × IsArchive log (kept_all leaves done) end)

-- these versions are kept one after the other behind those leaves: which are written then, in how many batches, and which are gathered
abbrev pub gathered_all : List Leaf → List FileVersion → Gathering
gathered_all leaves versions = fold with_version (record { written = leaves; gathered = []; batches = 0 }) versions

-- the number of the device call behind which the batches are written that these versions fill: each takes four
abbrev pub call_behind : Moment → List Leaf → List FileVersion → ℕ
call_behind m leaves versions = m.calls + 4 * (gathered_all leaves versions).batches

-- the same with what they leave gathered, as one batch more
abbrev pub last_call : Moment → List Leaf → List FileVersion → ℕ
last_call m leaves versions = m.calls + 4 * (settled (gathered_all leaves versions)).batches

-- a log area has the leaves that were there, and those of some of the first versions, so many leaves or more
abbrev pub HasFrom : ℕ → List Leaf → List FileVersion → List ℕ → Type 0
HasFrom least leaves versions log = (done : List FileVersion) × Begins done versions × (least ≤ length (kept_all leaves done)) × ((end : ℕ) × IsArchive log (kept_all leaves done) end)

-- a crash at a moment since the batches were written that the first so many versions fill leaves their leaves, or more of them in order
abbrev pub StandSince : Moment → Moment → List Leaf → List FileVersion → ℕ → Type 0
StandSince first now leaves versions count = (n : ℕ) → n ≤ count → (c : Image) → now.left_since (call_behind first leaves (take n versions)) c
    → HasFrom (length (gathered_all leaves (take n versions)).written) leaves versions c.log

-- a crash at a moment since the last device call leaves these leaves
abbrev pub StandNow : Moment → List Leaf → ℕ → Type 0
StandNow now leaves end = (c : Image) → now.left_since now.calls c → IsArchive c.log leaves end

-- The versions so far are kept or gathered, and no device call failed. A crash at any moment since leaves the leaves of some of the first
-- of them, and all whose batch was written by then; and a crash now leaves those of all that are written.
pub record IsKeeping {A : Type 0} (view : A → Moment) (first : Archive A) (done : List FileVersion) (now : Archive A) : Type 0 where
  pub leaves_are : now.leaves ≡ (gathered_all first.leaves done).written
  pub gathered_are : now.gathered ≡ (gathered_all first.leaves done).gathered
  pub opened_is : now.opened ≡ first.opened
  pub healthy : (view now.disk).faults ≤ now.opened
  pub work : IsDeviceWork (view first.disk) (view now.disk) ⊥
  pub moments : IsTrue (view first.disk).tells → Adds (view first.disk) (view now.disk) (λ c. HasSome first.leaves done c.log)
  pub calls : (view now.disk).calls ≡ call_behind (view first.disk) first.leaves done
  pub since : IsTrue (view first.disk).tells → (IsAtEnd (view first.disk) → ⊥) → StandSince (view first.disk) (view now.disk) first.leaves done (length done)
  pub late : IsTrue (view first.disk).tells → (IsAtEnd (view first.disk) → ⊥) → StandNow (view now.disk) now.leaves now.end
  pub crash : IsTrue (view first.disk).tells → (IsAtEnd (view first.disk) → ⊥) → (c : Image) → (view now.disk).may_leave c → IsArchive c.log now.leaves now.end
  pub store : LeavesStore (view first.disk) (view now.disk)

-- The versions are kept, and no device call failed. A crash at any moment since leaves the leaves of some of the first of them, and all
-- whose batch was written by then; and a crash now, or at a moment since the last device call, leaves those of all.
pub record HasKept {A : Type 0} (view : A → Moment) (first : Archive A) (done : List FileVersion) (now : Archive A) : Type 0 where
  pub leaves_are : now.leaves ≡ kept_all first.leaves done
  pub none_gathered : now.gathered ≡ []
  pub opened_is : now.opened ≡ first.opened
  pub healthy : (view now.disk).faults ≤ now.opened
  pub work : IsDeviceWork (view first.disk) (view now.disk) ⊥
  pub moments : IsTrue (view first.disk).tells → Adds (view first.disk) (view now.disk) (λ c. HasSome first.leaves done c.log)
  pub calls : (view now.disk).calls ≡ last_call (view first.disk) first.leaves done
  pub since : IsTrue (view first.disk).tells → (IsAtEnd (view first.disk) → ⊥) → StandSince (view first.disk) (view now.disk) first.leaves done (length done)
  pub late : IsTrue (view first.disk).tells → (IsAtEnd (view first.disk) → ⊥) → StandNow (view now.disk) now.leaves now.end
  pub crash : IsTrue (view first.disk).tells → (IsAtEnd (view first.disk) → ⊥) → (c : Image) → (view now.disk).may_leave c → IsArchive c.log now.leaves now.end
  pub store : LeavesStore (view first.disk) (view now.disk)

-- why no more versions were kept: memory was refused; or it is why the next one isn't kept
abbrev pub IsStop : List Leaf → ℕ → List FileVersion → OldFault → Type 0
IsStop leaves end rest e = (e ≡ faults.NoMemory) ⊎ ((v : FileVersion) × (more : List FileVersion) × (rest ≡ v ∷ more) × IsTrue (is_above leaves v.node) × IsUnkept leaves end v e)

-- Some of the first versions are kept, and then a fault came. A crash at any moment since leaves the leaves of some of the first, and
-- all whose batch was written by then; and a crash now leaves those that were kept, or also those of the batch at which a device call
-- failed. After another fault all that were kept stand.
pub record HasStopped {A : Type 0} (view : A → Moment) (first : Archive A) (versions : List FileVersion) (now : Archive A) (e : OldFault) : Type 0 where
  pub done : List FileVersion
  pub rest : List FileVersion
  pub versions_are : versions ≡ done ++ rest
  pub leaves_are : now.leaves ≡ kept_all first.leaves done
  pub cause : IsStop now.leaves now.end rest e
  pub batch : List FileVersion
  pub batch_is : Begins batch rest
  pub no_batch : (batch ≡ []) ⊎ (e ≡ faults.DiskFault)
  pub opened_is : now.opened ≡ first.opened
  pub work : IsDeviceWork (view first.disk) (view now.disk) (e ≡ faults.DiskFault)
  pub moments : IsTrue (view first.disk).tells → Adds (view first.disk) (view now.disk) (λ c. HasSome first.leaves versions c.log)
  pub since : IsTrue (view first.disk).tells → (IsAtEnd (view first.disk) → ⊥) → StandSince (view first.disk) (view now.disk) first.leaves versions (length done)
  pub late : (e ≡ faults.DiskFault) ⊎ (IsTrue (view first.disk).tells → (IsAtEnd (view first.disk) → ⊥) → StandNow (view now.disk) now.leaves now.end)
  pub crash : IsTrue (view first.disk).tells → (IsAtEnd (view first.disk) → ⊥) → (c : Image) → (view now.disk).may_leave c → IsOneOf now.leaves (kept_all now.leaves batch) c.log
  pub store : LeavesStore (view first.disk) (view now.disk)

-- A fault came while versions were gathered: of a device call; or another one, in front of which some of the first are kept or gathered.
pub record IsInFrontOf {A : Type 0} (view : A → Moment) (first : Archive A) (versions : List FileVersion) (now : Archive A) (e : OldFault) : Type 0 where
  pub done : List FileVersion
  pub rest : List FileVersion
  pub versions_are : versions ≡ done ++ rest
  pub keeping : IsKeeping view first done now
  pub other : e ≢ faults.DiskFault
  pub cause : IsStop (all_leaves now) (whole_end now) rest e

abbrev pub IsHalted : {A : Type 0} → (A → Moment) → Archive A → List FileVersion → Archive A → OldFault → Type 0
IsHalted view first versions now e = ((e ≡ faults.DiskFault) × HasStopped view first versions now e) ⊎ IsInFrontOf view first versions now e
