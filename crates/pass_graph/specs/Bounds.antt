-- How large the numbers of a store get, and how many bytes the records of a session have in the log. This project's own rule.
use Rattle.std.specs.Prelude.{ℕ, ◌+◌, ◌*◌, ◌^◌, ◌≤◌, ◌<◌, List, sum_by}
use Rattle.pass_entry.specs.declared.record.Record.{Record}
use Rattle.pass_entry.specs.Lengths.{record_length}
use Rattle.pass_plain.specs.Ceilings.{most_objects}
use Rattle.pass_plain.specs.WellLogged.{IsWellLogged, current_of, ceiling_of}

-- how many bytes records have in the log
abbrev pub records_length : List Record → ℕ
records_length list = sum_by record_length list

-- a ceiling takes 9 bytes and is at most 8,192 above the one before it
abbrev pub CeilingLengthLaw : Type 0
CeilingLengthLaw = (list : List Record) → IsWellLogged list → 9 * ceiling_of list ≤ 8192 * records_length list

-- a version takes 17 bytes and is one above the one before it, and the first one is 1
abbrev pub VersionLengthLaw : Type 0
VersionLengthLaw = (list : List Record) → IsWellLogged list → (object : ℕ) → 17 * current_of list object ≤ 17 + records_length list

-- above the ceiling of a list of at most 2^38 bytes there are numbers for the objects of one more session
abbrev pub CeilingRoomLaw : Type 0
CeilingRoomLaw = (list : List Record) → IsWellLogged list → records_length list ≤ 2 ^ 38 → ceiling_of list + most_objects < 2 ^ 48

-- and above each version there are 2^32 more
abbrev pub VersionRoomLaw : Type 0
VersionRoomLaw = (list : List Record) → IsWellLogged list → records_length list ≤ 2 ^ 38 → (object : ℕ) → current_of list object + 2 ^ 32 < 2 ^ 48
