-- The lines of a trace's text as the plain definitions see them. This project's own format.
use Rattle.std.specs.Prelude.{ℕ, ◌+◌, List, map}
use Rattle.pass_plain.specs.declared.request.Request.TheVariants as requests
use Rattle.pass_plain.specs.declared.start.Start.{Start}
use Rattle.pass_plain.specs.Legal.{session_of}
use Rattle.pass_plain.specs.Sessions.{Session}
use Rattle.pass_plain.specs.Traces.{Line, LineCall, given, write_last, fork_as, wait_for, await_for}
use Rattle.pass_trace.specs.declared.trace.Command.{Command}
use Rattle.pass_trace.specs.declared.trace.Command.TheVariants as command
use Rattle.pass_trace.specs.declared.trace.Payload.{Payload}
use Rattle.pass_trace.specs.declared.trace.Payload.TheVariants as payload
use Rattle.pass_trace.specs.declared.trace.TraceLine.{TraceLine}
use Rattle.pass_trace.specs.Rules.{count_created}

abbrev pub write_of : ℕ → Payload → LineCall
write_of fd (payload.Given bytes) = given (requests.Write fd bytes)
write_of fd payload.Last = write_last fd

-- the call that a command makes
abbrev pub call_of : Command → LineCall
call_of (command.Creat fd name) = given (requests.Creat fd name)
call_of (command.Open fd name mode) = given (requests.OpenName fd name mode)
call_of (command.Close fd) = given (requests.CloseFd fd)
call_of (command.Read fd len) = given (requests.Read fd len)
call_of (command.Write fd what) = write_of fd what
call_of (command.Seek fd off) = given (requests.Seek fd off)
call_of (command.Truncate fd size) = given (requests.Truncate fd size)
call_of (command.Pipe reader writer) = given (requests.MakePipe reader writer)
call_of (command.Fork child) = fork_as child
call_of (command.Exec name args) = given (requests.Exec name args)
call_of (command.Wait child) = wait_for child
call_of (command.Await child) = await_for child
call_of (command.Rename from to) = given (requests.Rename from to)
call_of (command.Unlink name) = given (requests.Unlink name)
call_of (command.MkObj fd) = given (requests.MakeObj fd)
call_of (command.Revive fd pnode) = given (requests.Revive fd pnode)
call_of (command.Freeze fd) = given (requests.FreezeObj fd)
call_of (command.Disclose target source) = given (requests.Disclose target source)
call_of (command.Tag fd attr value) = given (requests.TagObj fd attr value)
call_of (command.Sync fd) = given (requests.Sync fd)

abbrev pub plain_line : TraceLine → Line
plain_line l = record { number = l.number; process = l.process; call = call_of l.command }

-- the trace of a text, seen without its words
abbrev pub plain_trace : List TraceLine → List Line
plain_trace lines = map plain_line lines

-- how many objects the session of a trace may make: its first process, and one for each line that creates one
abbrev pub objects_of : List TraceLine → ℕ
objects_of lines = 1 + count_created lines

-- the session that runs a trace from this start
abbrev pub session_of_trace : Start → List TraceLine → Session
session_of_trace start lines = session_of start (objects_of lines)
