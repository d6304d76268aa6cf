-- What the answer of a sync makes of its process's history.
use Rattle.std.specs.Prelude.{ℕ, Result}
use Rattle.pass_plain.specs.declared.request.Request.TheVariants as requests
use Rattle.pass_plain.specs.Sessions.{Session}
use Rattle.pass_proc.specs.Procs.{ProcView}
use Rattle.pass_answer.specs.declared.answer.CallEnd.{CallEnd}
use Rattle.pass_answer.specs.declared.answer.Moved.{Moved}
use Rattle.pass_answer.specs.Syncs.{SyncAnswers}
use Rattle.pass_progress.specs.Progress.{IsBetween, MayGoOn, Progresses}

-- a sync
abbrev pub SyncLaw : Type 0
SyncLaw = (session : Session) (places : ℕ) (old new : ProcView) (fd : ℕ) (result : Result Moved CallEnd) → IsBetween session old → IsBetween session new → MayGoOn old (requests.Sync fd)
    → SyncAnswers session places old new fd result → Progresses session places old new (requests.Sync fd) result
