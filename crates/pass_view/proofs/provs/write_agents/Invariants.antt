use Rattle.std.proofs.Common.{ℕ, List}
use Rattle.pass_view.specs.Provs.{agent, member_tokens}
use Rattle.pass_view.proofs.Adding.{Comes}
use Rattle.pass_view.proofs.provs.write_agents.Given as goal

abbrev pub invariant-loop-name : goal.invariant-loop-name
invariant-loop-name l = Comes (λ (name : List ℕ). member_tokens (agent name)) l.initial.out l.initial.name-iterator l.out l.name-iterator
