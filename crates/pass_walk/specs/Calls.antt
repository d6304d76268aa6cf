-- What a fork makes of its process.
use Rattle.std.specs.Prelude.{ℕ, ◌≡◌, Result, Ok, Err}
use Rattle.pass_entry.specs.declared.entry.CallFault.{CallFault}
use Rattle.pass_plain.specs.declared.request.Request.TheVariants as requests
use Rattle.pass_plain.specs.Calls.{pnode_at}
use Rattle.pass_plain.specs.Histories.{call_entries}
use Rattle.pass_plain.specs.Runs.{next_number}
use Rattle.pass_plain.specs.Sessions.{Session}
use Rattle.pass_proc.specs.Procs.{ProcView}
use Rattle.pass_answer.specs.declared.answer.CallEnd.{CallEnd}
use Rattle.pass_answer.specs.declared.answer.CallEnd.TheVariants as ends
use Rattle.pass_progress.specs.Progress.{BornAs, IsAtRest, IsDone, IsNewborn, Progresses}
use Rattle.pass_walk.specs.Causes.{HasRefusedFork}

-- a fork that went through: the child has just begun, and the process has borne it alone
pub record HasForked (session : Session) (old new child : ProcView) : Type 0 where
  pub done : IsDone session old new requests.Fork
  pub named : child.who ≡ pnode_at (call_entries new.seen old.who (next_number old.seen old.who)) 0
  pub seen : child.seen ≡ new.seen
  pub newborn : IsNewborn session child.who child.seen
  pub rest : IsAtRest child
  pub births : BornAs old.who old.seen new.seen (λ what. what ≡ child.who)

-- one that did not: none was borne, and a fault stands in the history
pub record HasNotForked (session : Session) (places : ℕ) (old new : ProcView) (end : CallEnd) : Type 0 where
  pub progresses : Progresses session places old new requests.Fork (Err end)
  pub childless : BornAs old.who old.seen new.seen (λ what. ⊥)
  pub refused : (f : CallFault) → end ≡ ends.Fault f → HasRefusedFork new.seen

abbrev pub Forks : Session → ℕ → ProcView → ProcView → Result ProcView CallEnd → Type 0
Forks session places old new (Ok child) = HasForked session old new child
Forks session places old new (Err end) = HasNotForked session places old new end
