use Rattle.std.proofs.Common.{subst}
use Rattle.pass_hold.specs.Callings.{HasLooked}
use Rattle.pass_proc.proofs.Steps.{still, way_looked}
use Rattle.pass_proc.proofs.proc.Proc.look.Goals as goal

pub invariant_of-self : goal.invariant_of-self
invariant_of-self g c =
    let S = g.J.Whose.book.session in
    let i = c.self.inside in
    let e = c.look.ensures in (
      still S i.process i.number i.caller c.self.invariant.0 c.look.new.self i.caller.held e.caller e.looked e.few,
      way_looked S i.process.who i.number i.caller.seen c.look.new.self.seen i.process.state i.way
          (subst (λ w. HasLooked S w i.caller.seen c.look.new.self.seen) c.self.invariant.0.of_who e.looked) c.self.invariant.1,
    )
