-- What a text says as a trace, and where it is at fault. All rules here are this project's own.
use Rattle.std.specs.Prelude.{◌≡◌, ℕ, ◌+◌, ◌-◌, ◌<◌, ◌≤◌, ◌&&◌, nat_lt, Bool, List, [], ◌∷◌, ◌++◌, length, take, slice_index_or, if◌then◌else◌, Option, Some, None, Result, Ok, Err}
use Rattle.pass_trace.specs.declared.trace.TraceLine.{TraceLine}
use Rattle.pass_trace.specs.declared.trace.TraceReason.{TraceReason}
use Rattle.pass_trace.specs.declared.trace.TraceReason.TheVariants as reason
use Rattle.pass_entry.specs.Words.{call_of}
use Rattle.pass_entry.specs.declared.entry.CallName.{CallName}
use Rattle.pass_trace.specs.Calls.{forms_of}
use Rattle.pass_trace.specs.Words.{is_number, have_these}
use Rattle.pass_trace.specs.Commands.{◌>>=◌, process_of, command_of}
use Rattle.pass_trace.specs.declared.limits.Scale.{Scale}
use Rattle.pass_trace.specs.declared.limits.Scale.TheVariants.{Long}
use Rattle.pass_trace.specs.Limits.{most_lines, longest_line}
use Rattle.pass_trace.specs.Lines.{lines_of, is_skipped, words_of}
use Rattle.pass_trace.specs.Rules.{rule_of}

-- what a process number, a call and the words behind it say
unfoldable pub call_line_of : Scale → ℕ → List ℕ → CallName → List (List ℕ) → Result TraceLine TraceReason
call_line_of scale number process call words = do
  process ← process_of scale process
  command ← command_of scale call words
  Ok (record { number = number; process = process; command = command })

-- the words have a row of the table with their call and their number, and each has its form
abbrev pub has_row : List ℕ → CallName → List (List ℕ) → Bool
has_row process call words = is_number process && have_these (forms_of call) words

-- the line of a row of the table, where the call has one for these words
abbrev pub row_of : Scale → ℕ → List ℕ → Option CallName → List (List ℕ) → Result TraceLine TraceReason
row_of scale number process None words = Err reason.Form
row_of scale number process (Some call) words = if has_row process call words then call_line_of scale number process call words else Err reason.Form

-- what the words of a line say, or the first reason why they are no line of a trace
unfoldable pub line_of : Scale → ℕ → List (List ℕ) → Result TraceLine TraceReason
line_of scale number [] = Err reason.Form
line_of scale number (process ∷ []) = Err reason.Form
line_of scale number (process ∷ call ∷ words) = row_of scale number process (call_of call) words

-- What a line of a text says by itself: nothing where it is skipped, or a line of a trace, or the first reason
-- why neither.
unfoldable pub text_line_of : Scale → ℕ → List ℕ → Result (Option TraceLine) TraceReason
text_line_of scale number text =
    if nat_lt (most_lines scale) number then Err reason.Many
    else if nat_lt longest_line (length text) then Err reason.Length
    else if is_skipped text then Ok None
    else (do
      line ← line_of scale number (words_of text)
      Ok (Some line))

-- the line that was said, where there is one
abbrev pub said : Result (Option TraceLine) TraceReason → List TraceLine
said (Ok (Some line)) = line ∷ []
said (Ok None) = []
said (Err reason) = []

-- the lines of the trace that lines of a text say, the first of which has this number
abbrev pub lines_from : Scale → ℕ → List (List ℕ) → List TraceLine
lines_from scale number [] = []
lines_from scale number (text ∷ texts) = said (text_line_of scale number text) ++ lines_from scale (number + 1) texts

-- the reason of a line by itself, or else of its place behind the earlier lines
abbrev pub reason_behind : Scale → List TraceLine → Result (Option TraceLine) TraceReason → Option TraceReason
reason_behind scale earlier (Ok (Some line)) = rule_of scale earlier line
reason_behind scale earlier (Ok None) = None
reason_behind scale earlier (Err reason) = Some reason

-- the first reason why the line of a text at a place, from 0, is at fault
abbrev pub fault_at : Scale → List (List ℕ) → ℕ → Option TraceReason
fault_at scale texts k = reason_behind scale (lines_from scale 1 (take k texts)) (text_line_of scale (k + 1) (slice_index_or texts k []))

-- the trace of a text; one of the usual scale is the same at the long one
abbrev pub trace_of : List ℕ → List TraceLine
trace_of bytes = lines_from Long 1 (lines_of bytes)

-- the bytes are the text of a trace: no line is at fault
abbrev pub IsTraceText : Scale → List ℕ → Type 0
IsTraceText scale bytes = (k : ℕ) → k < length (lines_of bytes) → fault_at scale (lines_of bytes) k ≡ None

-- this line, by its number from 1, is the first that is at fault, with its first reason
pub record IsFirstFault (scale : Scale) (bytes : List ℕ) (line : ℕ) (reason : TraceReason) : Type 0 where
  pub number : 0 < line
  pub there : line ≤ length (lines_of bytes)
  pub fault : fault_at scale (lines_of bytes) (line - 1) ≡ Some reason
  pub first : (k : ℕ) → k + 1 < line → fault_at scale (lines_of bytes) k ≡ None
