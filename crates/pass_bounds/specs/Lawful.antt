-- What bounds the records of a log and of a history.
use Rattle.std.specs.Prelude.{ℕ, ◌≡◌, ◌+◌, ◌*◌, ◌<◌, ◌≤◌, ◌^◌, List, length, Ok}
use Rattle.std.specs.List.{All}
use Rattle.pass_entry.specs.declared.entry.Entry.{Entry}
use Rattle.pass_entry.specs.Ranges.{IsInRange}
use Rattle.pass_plain.specs.Sessions.{Session, opening_version}
use Rattle.pass_plain.specs.Sound.{IsSound}
use Rattle.pass_plain.specs.Legal.{IsLegal}
use Rattle.pass_plain.specs.Traces.{Line}
use Rattle.pass_plain.specs.Runs.{IsRun}
use Rattle.pass_plain.specs.Records.{records_of}
use Rattle.pass_plain.specs.Ceilings.{most_objects}
use Rattle.pass_plain.specs.WellLogged.{ceiling_of, current_of, IsWellLogged}
use Rattle.pass_graph.specs.Bounds.{records_length}
use Rattle.pass_graph.specs.Openings.{Opens}
use Rattle.pass_log.specs.Records.{Held, image_of, spellings}

-- Logs

-- the records of a log area have the bytes that their lengths say, and no more than the log has
abbrev pub ImageLaw : Type 0
ImageLaw = (bytes : List ℕ) (log : Held) → image_of bytes ≡ Ok log
    → (length (spellings log.list) ≡ records_length log.list) × (length (spellings log.list) ≤ log.end)

-- a log that ends at most at 2 ^ 38 leaves numbers for one more session, and has no version above 2 ^ 35
abbrev pub OpenedLaw : Type 0
OpenedLaw = (bytes : List ℕ) (log : Held) → image_of bytes ≡ Ok log → log.end ≤ 2 ^ 38 → IsWellLogged log.list
    → (ceiling_of log.list + most_objects < 2 ^ 48) × ((pnode : ℕ) → current_of log.list pnode ≤ 2 ^ 35)

-- Histories

-- the records of a history are within their ranges, where its objects opened with versions that leave one for each entry
abbrev pub InRangeLaw : Type 0
InRangeLaw = (session : Session) → IsSound session → (history : List Entry) → IsLegal session history
    → ((object : ℕ) → opening_version session.start object + length history < 2 ^ 48) → All IsInRange (records_of session history)

-- an entry has at most 1,376 bytes of records: those of an exec with the longest name and arguments
abbrev pub LengthLaw : Type 0
LengthLaw = (session : Session) → IsSound session → (history : List Entry) → IsLegal session history
    → length (spellings (records_of session history)) ≤ 1376 * length history

-- Runs

-- a run of a trace has at most two calls a line, its start, and the exit of its first process; a call has at most 67 entries, and
-- these have at most 7,500 bytes of records
abbrev pub RunLaw : Type 0
RunLaw = (session : Session) → IsSound session → (trace : List Line) (history : List Entry) → IsRun session trace history
    → (length history ≤ 67 * (2 * length trace + 2)) × (length (spellings (records_of session history)) ≤ 7500 * (2 * length trace + 2))

-- over a log that ends at most at 2 ^ 38, one frame holds the records of a run of a trace of at most 100,000 lines
abbrev pub FrameLaw : Type 0
FrameLaw = (bytes : List ℕ) (log : Held) → image_of bytes ≡ Ok log → log.end ≤ 2 ^ 38 → (session : Session) → Opens log.list session
    → (trace : List Line) (history : List Entry) → IsRun session trace history → length trace ≤ 100000
    → All IsInRange (records_of session history) × (length (spellings (records_of session history)) < 2 ^ 32)
