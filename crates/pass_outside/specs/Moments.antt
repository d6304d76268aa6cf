-- A disk as contracts see it, what each device call does to that, and what a run of calls does.
use Rattle.std.specs.Prelude.{◌≡◌, ◌⊎◌, ℕ, ◌+◌, ◌<◌, ◌≤◌, Bool, Result, IsOk, IsErr}
use Rattle.pass_outside.specs.Areas.{Image}
use Rattle.pass_outside.specs.Faults.{count_end}

-- what a disk means at one moment
pub record Moment : Type 1 where
  -- whether contracts may speak of its content
  pub tells : Bool
  -- what a read of each area gives, where it tells
  pub seen : Image
  -- what a crash now may leave
  pub may_leave : Image → Type 0
  -- what a crash at a moment since device call number t may have left
  pub left_since : ℕ → Image → Type 0
  -- the count of device calls
  pub calls : ℕ
  -- the count of faults
  pub faults : ℕ

-- a count stands at its end, and no call goes on
abbrev pub IsAtEnd : Moment → Type 0
IsAtEnd m = (m.calls ≡ count_end) ⊎ (m.faults ≡ count_end)

-- an image that a crash might have left before, and a step from there
abbrev pub AfterStep : (Image → Image → Type 0) → Moment → Image → Type 0
AfterStep step old c = (d : Image) × old.may_leave d × step d c

-- a crash leaves only what it might have left before, after a step
abbrev pub Follows : (Image → Image → Type 0) → Moment → Moment → Type 0
Follows step old new = (c : Image) → new.may_leave c → AfterStep step old c

-- a crash may leave whatever it might have left before, after any such step
abbrev pub Reaches : (Image → Image → Type 0) → Moment → Moment → Type 0
Reaches step old new = (c : Image) → AfterStep step old c → new.may_leave c

-- What a run of calls adds: a crash at a moment since device call t may have left what it might have before the run, or what has P.
pub record Adds (old new : Moment) (P : Image → Type 0) : Type 0 where
  pub later : old.calls ≤ new.calls
  pub nothing_else : (t : ℕ) (c : Image) → t ≤ old.calls → new.left_since t c → old.left_since t c ⊎ P c

-- One device call. It fails exactly where the count of faults rose, or a count stood at its end.
pub record IsDeviceCall {T E : Type 0} (old new : Moment) (result : Result T E) : Type 0 where
  pub tells : new.tells ≡ old.tells
  pub rises : old.faults ≤ new.faults
  pub one_more : (IsAtEnd old → ⊥) → new.calls ≡ old.calls + 1
  pub ok : IsOk result → (new.faults ≡ old.faults) × (IsAtEnd old → ⊥)
  pub err : IsErr result → (old.faults < new.faults) ⊎ (IsAtEnd old × (new.calls ≡ old.calls) × (new.faults ≡ old.faults))
  pub adds : Adds old new new.may_leave
  pub keeps : (t : ℕ) (c : Image) → t ≤ old.calls → old.left_since t c → new.left_since t c

-- A run of device calls that ends at the first that fails, and what it adds.
pub record IsDeviceRun {T E : Type 0} (old new : Moment) (result : Result T E) (P : Image → Type 0) : Type 0 where
  pub tells : new.tells ≡ old.tells
  pub rises : old.faults ≤ new.faults
  pub ok : IsOk result → (new.faults ≡ old.faults) × (IsAtEnd old → ⊥)
  pub err : IsErr result → (old.faults < new.faults) ⊎ IsAtEnd new
  pub adds : Adds old new P

-- What a function did that may call the device, or answer before it does: the count of faults rises where the answer is
-- a fault of the device, and only there.
pub record IsDeviceWork (old new : Moment) (failed : Type 0) : Type 0 where
  pub tells : new.tells ≡ old.tells
  pub rises : old.faults ≤ new.faults
  pub later : old.calls ≤ new.calls
  pub fault : failed → (old.faults < new.faults) ⊎ IsAtEnd new
  pub no_fault : (failed → ⊥) → new.faults ≡ old.faults
