-- With what the run of a trace starts, and what stays as it goes on.
use Rattle.std.specs.Prelude.{ℕ, ◌+◌, ◌≡◌, ◌≤◌, ◌<◌, List, [], ◌++◌, Some, length, if◌then◌else◌}
use Rattle.pass_entry.specs.declared.entry.Entry.{Entry}
use Rattle.pass_plain.specs.Sessions.{Session}
use Rattle.pass_plain.specs.Legal.{IsLegal}
use Rattle.pass_plain.specs.Traces.{Line}
use Rattle.pass_plain.specs.Runs.{pnode_of_process}
use Rattle.pass_trace.specs.TraceLines.{plain_trace}
use Rattle.pass_trace.specs.Rules.{count_created}
use Rattle.pass_trace.specs.declared.trace.TraceLine.{TraceLine}
use Rattle.pass_replay.specs.Lines.{AreLinesBehind}
use Rattle.pass_replay.specs.Making.{sum_lines, creates_call}

-- the session may make its first process, and an object by each line that makes one
abbrev pub HasRoom : Session → List Line → Type 0
HasRoom session trace = 1 + sum_lines (λ process number call. if creates_call call then 1 else 0) [] trace ≤ session.objects

-- a session that counts the lines of its trace has room
abbrev pub RoomLaw : Type 0
RoomLaw = (session : Session) (lines : List TraceLine) → session.objects ≡ 1 + count_created lines → HasRoom session (plain_trace lines)

-- who has begun as a process of the trace is that process in every legal history that goes on
abbrev pub BegunLaw : Type 0
BegunLaw = (session : Session) (trace : List Line) (old later : List Entry) (process who : ℕ) → AreLinesBehind [] trace → IsLegal session (old ++ later) → 0 < length old
    → pnode_of_process session trace old process ≡ Some who → pnode_of_process session trace (old ++ later) process ≡ Some who
