-- What stands between the steps of a sync.
use Rattle.std.proofs.Common.{◌≡◌, ℕ, ap, ◌∙◌, subst}
use Rattle.std.specs.Prelude.{Result, Some}
use Rattle.std.specs.FinMap as finite_map
use Rattle.pass_entry.specs.declared.objects.Descriptor.{Descriptor}
use Rattle.pass_plain.specs.Processes.{Process}
use Rattle.pass_plain.specs.Sessions.{Session}
use Rattle.pass_proc.specs.Procs.{ProcView}
use Rattle.pass_answer.specs.declared.answer.CallEnd.{CallEnd}
use Rattle.pass_answer.specs.declared.answer.Moved.{Moved}
use Rattle.pass_safe.specs.Syncings.{HasKept, KeepingView}
use Rattle.pass_answer.specs.Syncs.{SyncAnswers}
pub use Rattle.pass_slots.proofs.OneKind.{app_alone, pipe_alone}

-- the answer is that of the call which the first entry began
pub same_sync : (session : Session) (places : ℕ) (k : KeepingView) (old new : ProcView) (fd : ℕ) (answer : Result Moved CallEnd) → k.before ≡ old → k.fd ≡ fd
    → SyncAnswers session places k.before new k.fd answer → SyncAnswers session places old new fd answer
same_sync session places k old new fd answer before of_fd is =
    subst (λ (v : ProcView). SyncAnswers session places v new fd answer) before (subst (λ (n : ℕ). SyncAnswers session places k.before new n answer) of_fd is)

pub kept_of : (session : Session) (k : KeepingView) (now : ProcView) (one other : ℕ) → one ≡ other → HasKept session k now one → HasKept session k now other
kept_of session k now one other same kept = subst (λ (n : ℕ). HasKept session k now n) same kept

-- what the process held before it holds still
pub still_held : (session : Session) (k : KeepingView) (old mid new : ProcView) (what fd : ℕ) (d : Descriptor) → HasKept session k mid what → k.before ≡ old → k.fd ≡ fd → new.state ≡ mid.state
    → finite_map.get old.state.descriptors fd ≡ Some d → finite_map.get new.state.descriptors k.fd ≡ Some d
still_held session k old mid new what fd d kept before of_fd same held =
    let state : new.state ≡ old.state = same ∙ kept.state ∙ ap (λ (v : ProcView). v.state) before in
    ap (λ (n : ℕ). finite_map.get new.state.descriptors n) of_fd ∙ ap (λ (p : Process). finite_map.get p.descriptors fd) state ∙ held
