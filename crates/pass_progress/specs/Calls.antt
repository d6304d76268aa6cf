-- The answers of a store's calls under one relation.
use Rattle.std.specs.Prelude.{◌≡◌, ℕ, Option, Some, None, Result}
use Rattle.pass_plain.specs.declared.request.Request.{Request}
use Rattle.pass_plain.specs.declared.request.Request.TheVariants as requests
use Rattle.pass_plain.specs.Sessions.{Session}
use Rattle.pass_plain.specs.Traces.{LineCall, request_of}
use Rattle.pass_proc.specs.Ends.{TrailView}
use Rattle.pass_proc.specs.Procs.{ProcView}
use Rattle.pass_answer.specs.Answers.{Answers}
use Rattle.pass_answer.specs.Lives.{HasExited}
use Rattle.pass_answer.specs.declared.answer.CallEnd.{CallEnd}
use Rattle.pass_answer.specs.declared.answer.Moved.{Moved}
use Rattle.pass_answer.specs.Syncs.{SyncAnswers}

-- a sync has a relation of its own
abbrev pub AnswersAny : Session → ℕ → ProcView → ProcView → Request → Result Moved CallEnd → Type 0
AnswersAny session places old new (requests.Sync fd) result = SyncAnswers session places old new fd result
AnswersAny session places old new r result = Answers session places old new r result

-- the request of a line's call; the child that it waits for has this pnode
abbrev pub request_with : ℕ → ProcView → LineCall → Request
request_with waited p call = request_of (λ process. waited) p.state.last_read call

-- what is left of a process that has made its exit
abbrev pub IsGone : Session → ProcView → Option TrailView → Type 0
IsGone session p (Some t) = ((place : ℕ) × HasExited session p t.seen place) × (t.who ≡ p.who)
IsGone session p None = ⊥
