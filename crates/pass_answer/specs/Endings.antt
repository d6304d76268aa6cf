-- How a call ends by its steps.
use Rattle.std.specs.Prelude.{Result, Ok, Err}
use Rattle.pass_entry.specs.declared.entry.CallFault.{CallFault}
use Rattle.pass_answer.specs.declared.answer.Moved.{Moved}
use Rattle.pass_answer.specs.declared.answer.CallEnd.{CallEnd}
use Rattle.pass_answer.specs.declared.answer.CallEnd.TheVariants as ends

-- the answer by what the steps came to, of which the last may be a fault
abbrev pub answer_of : Result Moved CallFault → Result Moved CallEnd
answer_of (Ok m) = Ok m
answer_of (Err f) = Err (ends.Fault f)
