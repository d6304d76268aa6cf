-- What the keeping of versions in a fresh archive makes of it.
use Rattle.std.specs.Prelude.{ℕ, ◌≡◌, ◌⊎◌, ◌<◌, List, [], length, Result, Ok, Err}
use Rattle.pass_outside.specs.Moments.{Moment}
use Rattle.pass_leaf.specs.Keeping.{FileVersion}
use Rattle.pass_leaf.specs.Archives.{Archive}
use Rattle.pass_past.specs.Keepings.{HasKept, HasStopped}
use Rattle.pass_prune.specs.declared.fault.PruneFault.{PruneFault}
use Rattle.pass_prune.specs.declared.fault.PruneFault.TheVariants.{NotFresh, Fresh}
use Rattle.pass_prune.specs.Openings.{IsOpened, IsUnopenedArchive, IsHandedOut}
use Rattle.pass_prune.specs.Results.{IsNotFresh}

-- an open archive has the versions; or it had a leaf, and is as it was; or a fault came
abbrev pub IsKeptIn : {F : Type 0} → (F → Moment) → List FileVersion → Archive F → Archive F → Result ℕ PruneFault → Type 0
IsKeptIn view versions old new (Ok n) = (old.leaves ≡ []) × HasKept view old versions new × (n ≡ length new.leaves)
IsKeptIn view versions old new (Err NotFresh) = (0 < length old.leaves) × (new ≡ old)
IsKeptIn view versions old new (Err (Fresh fault)) = (old.leaves ≡ []) × HasStopped view old versions new fault
IsKeptIn view versions old new (Err _) = ⊥

-- and its disk was handed out
abbrev pub IsKeptOut : {F : Type 0} → (F → Moment) → List FileVersion → Archive F → F → Result ℕ PruneFault → Type 0
IsKeptOut {F} view versions old after result = (new : Archive F) × IsKeptIn view versions old new result × IsHandedOut view new after

-- it was opened, and had no leaf
abbrev pub IsFresh : {F : Type 0} → (F → Moment) → F → Archive F → Type 0
IsFresh view fresh first = IsOpened view fresh first × (first.leaves ≡ [])

-- the same from its opening on
abbrev pub IsKeptOnto : {F : Type 0} → (F → Moment) → List FileVersion → F → F → Result ℕ PruneFault → Type 0
IsKeptOnto {F} view versions fresh after (Ok n) = (first last : Archive F) × IsFresh view fresh first × HasKept view first versions last × (n ≡ length last.leaves) × IsHandedOut view last after
IsKeptOnto {F} view versions fresh after (Err NotFresh) = IsNotFresh (view fresh) (view after)
IsKeptOnto {F} view versions fresh after (Err (Fresh fault)) = IsUnopenedArchive (view fresh) (view after) fault
    ⊎ ((first last : Archive F) × IsFresh view fresh first × HasStopped view first versions last fault × IsHandedOut view last after)
IsKeptOnto {F} view versions fresh after (Err _) = ⊥
