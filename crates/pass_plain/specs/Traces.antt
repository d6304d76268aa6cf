-- The lines of a trace, and the requests that they make. This project's own format, seen without its text.
use Rattle.std.specs.Prelude.{ℕ, ◌==◌, List, [], ◌∷◌, ◌++◌, Option, Some, None, filter, map}
use Rattle.pass_entry.specs.declared.entry.CallName.{CallName}
use Rattle.pass_entry.specs.declared.entry.CallName.TheVariants as call
use Rattle.pass_plain.specs.Calls.{name_of}
use Rattle.pass_plain.specs.declared.request.Request.{Request}
use Rattle.pass_plain.specs.declared.request.Request.TheVariants as requests

-- the call of a line: it stands there with its arguments, or writes the bytes that its process read last, or forks or
-- waits for a process that the trace numbers
pub data LineCall : Type 0 where
  given : Request → LineCall
  write_last : ℕ → LineCall
  fork_as : ℕ → LineCall
  wait_for : ℕ → LineCall
  await_for : ℕ → LineCall

-- a line with its number in the text, the number of its process in the trace, and its call
pub record Line : Type 0 where
  pub number : ℕ
  pub process : ℕ
  pub call : LineCall

-- the request of a line's call: `pnode` gives the pnodes of the trace's processes, `last` is what the caller read last
abbrev pub request_of : (ℕ → ℕ) → List ℕ → LineCall → Request
request_of pnode last (given request) = request
request_of pnode last (write_last fd) = requests.Write fd last
request_of pnode last (fork_as child) = requests.Fork
request_of pnode last (wait_for child) = requests.WaitChild (pnode child)
request_of pnode last (await_for child) = requests.Await (pnode child)

-- the name of a line's call
abbrev pub name_of_call : LineCall → CallName
name_of_call (given request) = name_of request
name_of_call (write_last fd) = call.Write
name_of_call (fork_as child) = call.Fork
name_of_call (wait_for child) = call.WaitChild
name_of_call (await_for child) = call.Await

-- the process for which a line's call waits, by its number in the trace
abbrev pub waited_for : LineCall → Option ℕ
waited_for (wait_for child) = Some child
waited_for (await_for child) = Some child
waited_for _ = None

-- the lines of a process, in order
abbrev pub lines_of : List Line → ℕ → List Line
lines_of trace process = filter (λ l. l.process == process) trace

-- the calls of a process: its lines in order, then exit
abbrev pub calls_of : List Line → ℕ → List LineCall
calls_of trace process = map (λ l. l.call) (lines_of trace process) ++ given requests.Exit ∷ []
