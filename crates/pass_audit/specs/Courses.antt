-- What the records of a list say of one file, one after the other.
use Rattle.std.specs.Prelude.{ℕ, ◌+◌, ◌*◌, ◌<◌, ◌≤◌, ◌≡◌, ◌⊎◌, ◌==◌, Bool, true, false, not, ◌&&◌, List, [], ◌∷◌, ◌++◌, Option, Some, None, fold, get_or, length, nat_le, nat_lt, option_and_then, take, if◌then◌else◌}
use Rattle.std.specs.List.{filter_map, list_all, list_any, range_with_len}
use Rattle.std.specs.Option.{MatchOption}
use Rattle.std.specs.Ordering.{nat_cmp}
use Rattle.std.specs.BTreeMap.{BTreeMap, get}
use Rattle.std.specs.BTreeSet.{BTreeSet, contains}
use Rattle.pass_entry.specs.declared.objects.Kind.TheVariants as kind
use Rattle.pass_entry.specs.declared.record.Record.{Record}
use Rattle.pass_entry.specs.declared.record.Record.TheVariants as log
use Rattle.pass_entry.specs.Limits.{block_size}
use Rattle.pass_plain.specs.Registries.{same_kind}
use Rattle.pass_leaf.specs.Leaves.{Leaf}
use Rattle.pass_leaf.specs.Contents.{last_content, last_version}
use Rattle.pass_leaf.specs.Keeping.{part, block_total}
use Rattle.pass_audit.specs.declared.verdict.Verdict.{Verdict}
use Rattle.pass_audit.specs.declared.verdict.Verdict.TheVariants.{Borne, Unlike, Unknown}
use Rattle.pass_audit.specs.Audits.{is_part_borne}
use Rattle.pass_audit.specs.declared.steps.Step.{Step}
use Rattle.pass_audit.specs.declared.steps.Step.TheVariants.{Made, Version, Size, Digest}
use Rattle.pass_audit.specs.declared.state.State.{State}
use Rattle.pass_audit.specs.declared.course.Course.{Course}

-- what a record says, and of which object
abbrev pub step_in : Record → Option (ℕ × Step)
step_in (log.Object pnode k) = Some (pnode, Made (same_kind k kind.File))
step_in (log.Version node) = Some (node.pnode, Version node.version)
step_in (log.Size pnode size) = Some (pnode, Size size)
step_in (log.Digest pnode block md5) = Some (pnode, Digest block md5)
step_in _ = None

abbrev pub step_for : ℕ → ℕ × Step → Option Step
step_for file said = if said.0 == file then Some said.1 else None

-- what a record says of the file
abbrev pub own_step : ℕ → Record → Option Step
own_step file r = option_and_then (step_for file) (step_in r)

abbrev pub own_steps : ℕ → List Record → List Step
own_steps file list = filter_map (own_step file) list

abbrev pub is_later : ℕ → Step → Bool
is_later version (Version next) = nat_lt version next
is_later version _ = false

-- what one step more says
abbrev pub file_step : Bool → Step → Bool
file_step old (Made is_file) = is_file
file_step old _ = old

abbrev pub version_step : ℕ → Step → ℕ
version_step old (Version version) = version
version_step old _ = old

abbrev pub size_step : ℕ → Step → ℕ
size_step old (Size size) = size
size_step old _ = old

abbrev pub row_step : ℕ → Option (List ℕ) → Step → Option (List ℕ)
row_step block row (Size size) = if nat_le size (block * block_size) then None else row
row_step block row (Digest one md5) = if one == block then Some md5 else row
row_step block row _ = row

-- a state is that after these steps
pub record IsAfter (steps : List Step) (state : State) : Type 0 where
  pub is_file : state.is_file ≡ fold file_step false steps
  pub version : state.version ≡ fold version_step 1 steps
  pub size : state.size ≡ fold size_step 0 steps
  pub rows : (block : ℕ) → get nat_cmp state.rows block ≡ fold (row_step block) None steps

-- a state is that after one step more
pub record IsNext (old : State) (step : Step) (new : State) : Type 0 where
  pub is_file : new.is_file ≡ file_step old.is_file step
  pub version : new.version ≡ version_step old.version step
  pub size : new.size ≡ size_step old.size step
  pub rows : (block : ℕ) → get nat_cmp new.rows block ≡ row_step block (get nat_cmp old.rows block) step

-- The rows bear out each block of a content that isn't in doubt.
abbrev pub AreSure : BTreeMap ℕ (List ℕ) → List ℕ → BTreeSet ℕ → Type 0
AreSure rows content doubts = (block : ℕ) → block < block_total (length content) → contains nat_cmp doubts block ≡ false → is_part_borne (get nat_cmp rows block) (part content block) ≡ true

-- Where rows become others, a block that isn't in doubt wasn't before, and has the same row.
abbrev pub AreDoubted : BTreeMap ℕ (List ℕ) → BTreeMap ℕ (List ℕ) → BTreeSet ℕ → BTreeSet ℕ → Type 0
AreDoubted old new before after = (block : ℕ) → contains nat_cmp after block ≡ false → (contains nat_cmp before block ≡ false) × (get nat_cmp new block ≡ get nat_cmp old block)

-- a content that gets another size reaches over a block before and then, or has that size
abbrev pub ReachOver : ℕ → ℕ → ℕ → Type 0
ReachOver old new block = (old ≡ new) ⊎ (((block + 1) * block_size ≤ old) × ((block + 1) * block_size ≤ new))

-- a leaf has the block
abbrev pub has_block : Leaf → ℕ → Bool
has_block leaf block = list_any (λ b. b.number == block) leaf.blocks

-- A course through a file's steps has come to a place, at which no version above this one has begun.
pub record HasCome (version : ℕ) (course : Course) : Type 0 where
  pub within : course.next ≤ length course.steps.items
  pub state : IsAfter (take course.next course.steps.items) course.state
  pub before : (k : ℕ) (d : Step) → k < course.next → is_later version (get_or course.steps.items k d) ≡ false
  pub sure : AreSure course.state.rows course.content.items course.doubts

-- A course is that of a file, behind these leaves.
pub record IsCourse (list : List Record) (past : List Leaf) (file : ℕ) (course : Course) : Type 0 where
  pub steps : course.steps.items ≡ own_steps file list
  pub come : HasCome (last_version past file) course
  pub content : course.content.items ≡ last_content past file

-- the courses are those of the files, behind these leaves; of a file without one the list says nothing
abbrev pub AreCourses : List Record → List Leaf → BTreeMap ℕ Course → Type 0
AreCourses list past courses = (file : ℕ) → MatchOption (get nat_cmp courses file) (own_steps file list ≡ []) (IsCourse list past file)

-- a state bears a content out
abbrev pub is_held : State → List ℕ → Bool
is_held state content = (state.size == length content)
    && list_all (λ block. is_part_borne (get nat_cmp state.rows block) (part content block)) (range_with_len 0 (block_total (length content)))

-- what a state says of a version with that content
abbrev pub verdict_by : State → ℕ → List ℕ → Verdict
verdict_by state version content = if not (state.is_file && (state.version == version)) then Unknown else if is_held state content then Borne else Unlike

-- a course that nobody has gone has these steps
pub record IsFresh (steps : List Step) (course : Course) : Type 0 where
  pub are : course.steps.items ≡ steps
  pub next : course.next ≡ 0
  pub state : IsAfter [] course.state
  pub content : course.content.items ≡ []

-- each file has a course of its steps; one without a course has none
abbrev pub AreFresh : (ℕ → List Step) → BTreeMap ℕ Course → Type 0
AreFresh own courses = (file : ℕ) → MatchOption (get nat_cmp courses file) (own file ≡ []) (IsFresh (own file))

-- one step more of a file
abbrev pub more_of : (ℕ → List Step) → ℕ → Step → ℕ → List Step
more_of own pnode step file = own file ++ (if pnode == file then step ∷ [] else [])
