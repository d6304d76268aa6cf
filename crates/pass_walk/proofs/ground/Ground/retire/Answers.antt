use Rattle.std.proofs.Common.{refl, subst}
use Rattle.pass_progress.specs.Calls.{IsGone}
use Rattle.pass_walk.proofs.ground.Ground.retire.Goals as goal

pub unreachable-requires : goal.unreachable-requires
unreachable-requires g c = subst (λ r. IsGone g.J.Whose.book.session c.args.proc r) c.in-None.is (c.retire.ensures c.args.proc refl)

pub returns-clause-call : goal.returns-clause-call
returns-clause-call g c = (subst (λ r. IsGone g.J.Whose.book.session c.args.proc r) c.in-Some.is (c.retire.ensures c.args.proc refl)).0
