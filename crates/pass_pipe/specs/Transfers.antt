-- The reply that a transfer's outcome stands for; None where the transfer isn't ready yet, after POSIX's EAGAIN.
use Rattle.std.specs.Prelude.{ℕ, List, take, Option, Some, None, Result, Ok, Err}
use Rattle.pass_entry.specs.declared.entry.Reply.{Reply}
use Rattle.pass_entry.specs.declared.entry.Reply.TheVariants as answer
use Rattle.pass_entry.specs.declared.entry.CallFault.TheVariants as fault
use Rattle.pass_pipe.specs.declared.pipe.PipeEnd.{PipeEnd}
use Rattle.pass_pipe.specs.declared.pipe.PipeEnd.TheVariants as stopped

abbrev pub reply_to_end : PipeEnd → Option Reply
reply_to_end stopped.BrokenPipe = Some (answer.Fault fault.BrokenPipe)
reply_to_end stopped.Again = None

-- of bytes that were given
abbrev pub reply_to_give : {T : Type 0} → Result T PipeEnd → Option Reply
reply_to_give (Ok done) = Some answer.Done
reply_to_give (Err stop) = reply_to_end stop

-- of bytes that were taken into the front of a slice: so many of them
abbrev pub reply_to_take : Result ℕ PipeEnd → List ℕ → Option Reply
reply_to_take (Ok count) slice = Some (answer.Took (take count slice))
reply_to_take (Err stop) slice = reply_to_end stop
