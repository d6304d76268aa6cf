-- What the calls of a run came to, and the text that tells it. The format is this project's own.
use Rattle.std.specs.Prelude.{ℕ, Bool, true, false, not, ◌&&◌, List, [], ◌∷◌, ◌++◌, codes, length, count_by, sum_by, if◌then◌else◌}
use Rattle.std.specs.Fmt.{decimal}
use Rattle.pass_entry.specs.declared.entry.Entry.{Entry}
use Rattle.pass_entry.specs.declared.entry.Act.{Act}
use Rattle.pass_entry.specs.declared.entry.Act.TheVariants as act
use Rattle.pass_entry.specs.declared.entry.CallName.{CallName}
use Rattle.pass_entry.specs.declared.entry.CallName.TheVariants as call
use Rattle.pass_plain.specs.Histories.{is_fault}
use Rattle.pass_report.specs.Reports.{is_answered}
use Rattle.pass_trace.specs.declared.trace.Command.{Command}
use Rattle.pass_trace.specs.declared.trace.Command.TheVariants as command
use Rattle.pass_trace.specs.declared.trace.Payload.{Payload}
use Rattle.pass_trace.specs.declared.trace.Payload.TheVariants as payload
use Rattle.pass_trace.specs.declared.trace.TraceLine.{TraceLine}
use Rattle.pass_gen.specs.Generated.{generated}

-- how many calls were answered
abbrev pub answered : List Entry → ℕ
answered history = count_by (is_answered history) history

abbrev pub is_write : CallName → Bool
is_write call.Write = true
is_write _ = false

-- the entry ends a write, which was answered without a fault
abbrev pub is_written : List Entry → Entry → Bool
is_written history e = is_answered history e && (is_write e.call && not (is_fault e.reply))

-- how many bytes an act puts into a file or a pipe
abbrev pub length_written : Act → ℕ
length_written (act.Put out at bytes) = length bytes
length_written (act.Push out bytes) = length bytes
length_written _ = 0

-- how many writes there were, and how many bytes they wrote together
abbrev pub writes : List Entry → ℕ
writes history = count_by (is_written history) history

abbrev pub bytes_written : List Entry → ℕ
bytes_written history = sum_by (λ e. if is_written history e then length_written e.act else 0) history

-- what a line writes: whether it does, and how many bytes it names
abbrev pub writes_command : Command → Bool
writes_command (command.Write fd what) = true
writes_command _ = false

abbrev pub length_named : Payload → ℕ
length_named (payload.Given bytes) = length bytes
length_named payload.Last = 0

abbrev pub length_command : Command → ℕ
length_command (command.Write fd what) = length_named what
length_command _ = 0

-- the same counts by the lines that a number draws
abbrev pub writes_drawn : ℕ → ℕ → ℕ
writes_drawn number lines = count_by (λ (l : TraceLine). writes_command l.command) (generated number lines)

abbrev pub bytes_drawn : ℕ → ℕ → ℕ
bytes_drawn number lines = sum_by (λ (l : TraceLine). length_command l.command) (generated number lines)

-- the four lines of a drawn run that came to this
abbrev pub drawn_text : ℕ → ℕ → ℕ → ℕ → ℕ → List ℕ
drawn_text number lines calls writes bytes =
    (codes "gen " ++ decimal number ++ codes " " ++ decimal lines ++ 10 ∷ []) ++ (codes "answered " ++ decimal calls ++ 10 ∷ [])
    ++ (codes "wrote " ++ decimal writes ++ codes " " ++ decimal bytes ++ 10 ∷ []) ++ (codes "acyclic yes" ++ 10 ∷ [])

-- those of a history
abbrev pub run_text : ℕ → ℕ → List Entry → List ℕ
run_text number lines history = drawn_text number lines (answered history) (writes history) (bytes_written history)
