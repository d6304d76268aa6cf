-- What is sent of a log: its bytes from a frame on, up to its end (this project's own rule).
use Rattle.std.specs.Prelude.{ℕ, ◌+◌, ◌≡◌, List, [], ◌∷◌, length, take, drop, Some, Ok, Err, Contains}
use Rattle.pass_log.specs.declared.fault.LogFault.TheVariants as log
use Rattle.pass_log.specs.Frames.{Frames, frames_of}
use Rattle.pass_log.specs.Records.{Held, image_of}
use Rattle.pass_outside.specs.Moments.{Moment}
use Rattle.pass_plain.specs.WellLogged.{first_flaw, IsWellLogged}
use Rattle.pass_recover.specs.declared.fault.OpenFault.{OpenFault}
use Rattle.pass_recover.specs.declared.fault.OpenFault.TheVariants as opening
use Rattle.pass_recover.specs.Faults.{LogHas, IsCauseOf}
use Rattle.pass_standby.specs.declared.sending.SendFault.{SendFault}
use Rattle.pass_standby.specs.declared.sending.SendFault.TheVariants as faults

-- the places of these frames, the first of them at that one, and of the end behind them
abbrev pub places : ℕ → List (List ℕ) → List ℕ
places at [] = at ∷ []
places at (frame ∷ frames) = at ∷ places (at + 5 + length frame) frames

-- the log has no broken frame, and one of its frames stands at that place, or it ends there
abbrev pub IsPlace : List ℕ → ℕ → Type 0
IsPlace bytes at = (frames : Frames) × (frames_of bytes ≡ Ok frames) × Contains (places 0 frames.list) at

-- the bytes of a log area from such a place on, up to the log's end
pub record IsSent (bytes : List ℕ) (from : ℕ) (text : List ℕ) : Type 0 where
  pub frames : Frames
  pub found : frames_of bytes ≡ Ok frames
  pub place : Contains (places 0 frames.list) from
  pub is : text ≡ drop from (take frames.end bytes)

-- the bytes of a log area hold records, and these are well logged
abbrev pub HoldsLogged : List ℕ → Type 0
HoldsLogged bytes = (held : Held) × (image_of bytes ≡ Ok held) × IsWellLogged held.list

-- the fault of opening that the bytes of a log area have, unless memory ran out
abbrev pub HasFault : List ℕ → OpenFault → Type 0
HasFault bytes (opening.BadFrame at) = image_of bytes ≡ Err (log.BadFrame at)
HasFault bytes (opening.BadRecord place why) = image_of bytes ≡ Err (log.BadRecord place why)
HasFault bytes (opening.Flaw place reason) = (held : Held) × (image_of bytes ≡ Ok held) × (first_flaw held.list ≡ Some (place, reason))
HasFault bytes opening.NoMemory = Unit {0}
HasFault bytes opening.DiskFault = ⊥

-- why nothing is sent of a log area with these bytes
abbrev pub Withholds : List ℕ → ℕ → SendFault → Type 0
Withholds bytes from (faults.Unopened fault) = HasFault bytes fault
Withholds bytes from faults.NoFrame = HoldsLogged bytes × (IsPlace bytes from → ⊥)

-- why nothing is sent of a disk: the log doesn't open; or it does, and no frame of it stands at that place, nor does it end there
abbrev pub IsUnsent : Moment → Moment → ℕ → SendFault → Type 0
IsUnsent old new from (faults.Unopened fault) = IsCauseOf old new fault
IsUnsent old new from faults.NoFrame = LogHas old (λ bytes. HoldsLogged bytes × (IsPlace bytes from → ⊥))
