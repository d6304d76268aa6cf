-- The causes of the faults of opening.
use Rattle.std.specs.Prelude.{◌≡◌, ◌⊎◌, ℕ, ◌<◌, List, Option, Some, None, Result, Ok, Err, IsTrue, option_map}
use Rattle.pass_graph.specs.declared.checking.CheckFault.{CheckFault}
use Rattle.pass_graph.specs.declared.checking.CheckFault.TheVariants as check
use Rattle.pass_log.specs.declared.fault.LogFault.{LogFault}
use Rattle.pass_log.specs.declared.fault.LogFault.TheVariants as log
use Rattle.pass_log.specs.Records.{Held, image_of}
use Rattle.pass_outside.specs.Moments.{Moment, IsAtEnd}
use Rattle.pass_plain.specs.WellLogged.{first_flaw}
use Rattle.pass_recover.specs.declared.fault.OpenFault.{OpenFault}
use Rattle.pass_recover.specs.declared.fault.OpenFault.TheVariants.{DiskFault, BadFrame, BadRecord, Flaw, NoMemory}

abbrev pub of_check : CheckFault → OpenFault
of_check (check.Flaw place reason) = Flaw place reason
of_check check.NoMemory = NoMemory

-- the fault of a log image: its own, and else the first flaw of its records. Bytes alone have no other faults.
abbrev pub image_fault : Result Held LogFault → Option OpenFault
image_fault (Ok held) = option_map (λ flaw. Flaw flaw.0 flaw.1) (first_flaw held.list)
image_fault (Err (log.BadFrame at)) = Some (BadFrame at)
image_fault (Err (log.BadRecord place why)) = Some (BadRecord place why)
image_fault (Err _) = None

-- the log area has bytes with this property. Of a disk that tells nothing it is some bytes.
abbrev pub LogHas : Moment → (List ℕ → Type 0) → Type 0
LogHas m P = (bytes : List ℕ) × (IsTrue m.tells → bytes ≡ m.seen.log) × P bytes

-- The cause of each fault: a device call failed; the first broken frame, or the first record that isn't one, of the log
-- area, where no earlier thing is wrong; the first flaw of its records.
abbrev pub IsCauseOf : Moment → Moment → OpenFault → Type 0
IsCauseOf old new DiskFault = (old.faults < new.faults) ⊎ IsAtEnd new
IsCauseOf old new (BadFrame at) = LogHas old (λ bytes. image_of bytes ≡ Err (log.BadFrame at))
IsCauseOf old new (BadRecord place fault) = LogHas old (λ bytes. image_of bytes ≡ Err (log.BadRecord place fault))
IsCauseOf old new (Flaw place reason) = LogHas old (λ bytes. (held : Held) × (image_of bytes ≡ Ok held) × (first_flaw held.list ≡ Some (place, reason)))
IsCauseOf old new NoMemory = Unit {0}
