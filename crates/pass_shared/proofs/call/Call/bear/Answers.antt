use Rattle.std.proofs.Common.{◌∙◌, sym}
use Rattle.pass_shared.proofs.call.Call.bear.Goals as goal

pub returns-clause-call : goal.returns-clause-call
returns-clause-call g c old who seen = c.bear_in.ensures.call old who (seen ∙ sym c.join_all-forking.ensures.same.0)
