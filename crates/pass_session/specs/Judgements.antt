-- Over which logs no session begins. This project's own rule.
use Rattle.std.specs.Prelude.{ℕ, List, Option, Some, None, Result, Ok, Err, nat_lt, if◌then◌else◌}
use Rattle.pass_log.specs.declared.fault.LogFault.{LogFault}
use Rattle.pass_log.specs.Records.{Held, image_of}
pub use Rattle.pass_recover.specs.Faults.{image_fault}
use Rattle.pass_recover.specs.declared.fault.OpenFault.{OpenFault}
use Rattle.pass_recover.specs.declared.fault.OpenFault.TheVariants.{DiskFault, BadFrame, BadRecord, Flaw, NoMemory}

-- the last end of a log image over which a session begins, 2 ^ 38: what a session adds never makes its log too long to be read
abbrev pub last_end : ℕ
last_end = 274877906944

abbrev pub end_fault : Result Held LogFault → Option OpenFault
end_fault (Ok held) = if nat_lt last_end held.end then Some (BadFrame held.end) else None
end_fault (Err fault) = None

abbrev pub fault_or : Option OpenFault → Option OpenFault → Option OpenFault
fault_or (Some fault) next = Some fault
fault_or None next = next

-- The fault for which no session begins over the bytes of a log area. Frames are judged before records, records before flaws, and
-- all of these before the place of the end.
abbrev pub session_fault : List ℕ → Option OpenFault
session_fault bytes = fault_or (image_fault (image_of bytes)) (end_fault (image_of bytes))

-- the fault of the store's own content
abbrev pub IsOfStore : OpenFault → Type 0
IsOfStore (BadFrame at) = Unit {0}
IsOfStore (BadRecord place why) = Unit {0}
IsOfStore (Flaw place reason) = Unit {0}
IsOfStore DiskFault = ⊥
IsOfStore NoMemory = ⊥

-- the fault with which an opening was refused
abbrev pub refusal_of : {T D : Type 0} → Result T (OpenFault × D) → Option OpenFault
refusal_of (Ok opened) = None
refusal_of (Err refused) = Some refused.0

-- the store was opened, or refused for its content: neither a device call failed, nor was memory refused
abbrev pub IsJudged : Option OpenFault → Type 0
IsJudged None = Unit {0}
IsJudged (Some fault) = IsOfStore fault
