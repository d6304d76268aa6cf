use Rattle.std.proofs.Common.{◌≡◌}
use Rattle.pass_lives.specs.Forks.{IsForking}
use Rattle.pass_shared.proofs.call.Call.join_all.Given as goal

abbrev pub invariant-loop : goal.invariant-loop
invariant-loop g l =
    IsForking g.J.Whose.book.session l.number l.process l.caller l.forking × (l.forking.before ≡ l.fn.forking.before) × (l.forking.child ≡ l.fn.forking.child)
