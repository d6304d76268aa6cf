-- The numbers and the texts of the statuses. This project's own rule.
use Rattle.std.specs.Prelude.{ℕ, List, [], ◌∷◌, ◌++◌, codes}
use Rattle.std.specs.Fmt.{decimal}
use Rattle.pass_entry.specs.Words.{flaw_word, node_text}
use Rattle.pass_pattern.specs.declared.fault.PatternFault.{PatternFault}
use Rattle.pass_pattern.specs.declared.fault.PatternFault.TheVariants as pattern
use Rattle.pass_record.specs.declared.fault.RecordFault.{RecordFault}
use Rattle.pass_record.specs.declared.fault.RecordFault.TheVariants as fault
use Rattle.pass_recover.specs.declared.fault.OpenFault.{OpenFault}
use Rattle.pass_recover.specs.declared.fault.OpenFault.TheVariants as store
use Rattle.pass_trace.specs.Reasons.{reason_word}
use Rattle.pass_status.specs.declared.status.Status.{Status}
use Rattle.pass_status.specs.declared.status.Status.TheVariants as status

-- the number of a status, which is the program's exit status
abbrev pub number_of_status : Status → ℕ
number_of_status status.Done = 0
number_of_status status.Stuck = 4
number_of_status status.BadWords = 2
number_of_status status.ReadFault = 6
number_of_status (status.BadTrace line reason) = 3
number_of_status (status.DiskFault opened now) = 8
number_of_status (status.BadStore fault) = 5
number_of_status (status.BadPattern fault) = 17
number_of_status (status.NoObject node) = 9
number_of_status (status.BadStream at) = 18
number_of_status (status.NoFrame from) = 19
number_of_status (status.BadLog at) = 21
number_of_status status.WriteFault = 7
number_of_status status.NoMemory = 10

-- the status of a store that didn't open, with the disk's counts of faults before and after
abbrev pub status_of_opening : ℕ → ℕ → OpenFault → Status
status_of_opening opened now store.DiskFault = status.DiskFault opened now
status_of_opening opened now store.NoMemory = status.NoMemory
status_of_opening opened now (store.BadFrame at) = status.BadStore (store.BadFrame at)
status_of_opening opened now (store.BadRecord place why) = status.BadStore (store.BadRecord place why)
status_of_opening opened now (store.Flaw place reason) = status.BadStore (store.Flaw place reason)

-- the word of a record's fault. Want of memory says nothing of a record, and has none.
abbrev pub record_word : RecordFault → List ℕ
record_word fault.Short = codes "short"
record_word fault.Tag = codes "tag"
record_word fault.Value = codes "value"
record_word fault.NoMemory = []

-- the text of a store that doesn't open. No status carries a device fault or want of memory here: they have statuses of their own.
abbrev pub store_text : OpenFault → List ℕ
store_text (store.BadFrame at) = codes "fault store frame " ++ decimal at ++ 10 ∷ []
store_text (store.BadRecord place why) = codes "fault store record " ++ decimal place ++ codes " " ++ record_word why ++ 10 ∷ []
store_text (store.Flaw place reason) = codes "fault store flaw " ++ decimal place ++ codes " " ++ flaw_word reason ++ 10 ∷ []
store_text store.DiskFault = codes "fault store" ++ 10 ∷ []
store_text store.NoMemory = codes "fault store" ++ 10 ∷ []

-- the text of a pattern that is none. No status carries want of memory here: it has a status of its own.
abbrev pub pattern_text : PatternFault → List ℕ
pattern_text (pattern.Bad at) = codes "fault pattern " ++ decimal at ++ 10 ∷ []
pattern_text pattern.Long = codes "fault pattern long" ++ 10 ∷ []
pattern_text pattern.NoMemory = codes "fault pattern" ++ 10 ∷ []

-- the text of a status that stands on no report
abbrev pub status_text : Status → List ℕ
status_text status.BadWords = codes "fault words" ++ 10 ∷ []
status_text status.ReadFault = codes "fault read" ++ 10 ∷ []
status_text (status.BadTrace line reason) = codes "fault trace " ++ decimal line ++ codes " " ++ reason_word reason ++ 10 ∷ []
status_text (status.DiskFault opened now) = codes "fault disk" ++ 10 ∷ []
status_text (status.BadStore fault) = store_text fault
status_text (status.BadPattern fault) = pattern_text fault
status_text (status.NoObject node) = codes "fault object " ++ node_text node ++ 10 ∷ []
status_text (status.BadStream at) = codes "fault stream " ++ decimal at ++ 10 ∷ []
status_text (status.NoFrame from) = codes "fault frame " ++ decimal from ++ 10 ∷ []
status_text (status.BadLog at) = codes "fault log " ++ decimal at ++ 10 ∷ []
status_text _ = []
