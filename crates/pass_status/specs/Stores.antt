-- Why a store doesn't open, by the bytes of its log area. This project's own rule.
use Rattle.std.specs.Prelude.{ℕ, List, Option}
use Rattle.pass_log.specs.Records.{image_of}
use Rattle.pass_recover.specs.declared.fault.OpenFault.{OpenFault}
pub use Rattle.pass_recover.specs.Faults.{image_fault}

-- the first fault of the bytes of a log area: frames are judged before records, and records before flaws
abbrev pub store_fault : List ℕ → Option OpenFault
store_fault bytes = image_fault (image_of bytes)
