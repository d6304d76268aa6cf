-- A call that finds too few places.
use Rattle.std.specs.Prelude.{◌≡◌, ◌≢◌, [], Some, None, Result, Err, slice_get}
use Rattle.pass_plain.specs.declared.request.Request.{Request}
use Rattle.pass_plain.specs.Calls.{Step, call_steps}
use Rattle.pass_plain.specs.Replies.{reply_to}
use Rattle.pass_plain.specs.Sessions.{Session}
use Rattle.pass_proc.specs.Procs.{ProcView}
use Rattle.pass_answer.specs.declared.answer.CallEnd.{CallEnd}
use Rattle.pass_answer.specs.declared.answer.CallEnd.TheVariants as ends
use Rattle.pass_answer.specs.declared.answer.Moved.{Moved}

-- Too few places are no answer where the call would wait: its first step is ready in what the process has seen.
abbrev pub IsReadyIfFull : Session → ProcView → ProcView → Request → Result Moved CallEnd → Type 0
IsReadyIfFull session old new r (Err (ends.Full left need)) = (step : Step) → slice_get (call_steps old.who old.state [] r) 0 ≡ Some step → reply_to session new.seen step.0 step.1 ≢ None
IsReadyIfFull session old new r _ = Unit {0}
