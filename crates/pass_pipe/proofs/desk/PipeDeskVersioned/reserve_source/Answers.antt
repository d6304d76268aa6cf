use Rattle.pass_flow.proofs.Flowing.{versioned_alike}
use Rattle.pass_pipe.proofs.desk.PipeDeskVersioned.reserve_source.Goals as goal

pub invariant_of-self : goal.invariant_of-self
invariant_of-self g c = (versioned_alike g.J.Whose.book c.self.inside.desk c.self.inside.versions c.reserve.new.self c.self.invariant.0 c.reserve.ensures.same, c.self.invariant.1)
