use Rattle.std.proofs.Common.{rules}
use Rattle.std.proofs.lemmas.List.Sorted.{IsNonDecreasingBy-from_sort_by_key}
use Rattle.pass_sched.proofs.pass.in_order.Goals as goal

pub returns-clause-ascending : goal.returns-clause-ascending
returns-clause-ascending g c = IsNonDecreasingBy-from_sort_by_key g.T.Task.order _ c.sort_unstable_by_key.ensures.sorted (λ a r q k. search rules)
