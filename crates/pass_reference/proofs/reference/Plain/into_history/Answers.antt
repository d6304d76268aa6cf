use Rattle.std.proofs.Common.{subst}
use Rattle.pass_plain.specs.Legal.{IsLegal, Past}
use Rattle.pass_reference.proofs.reference.Plain.into_history.Goals as goal

pub returns-clause-legal : goal.returns-clause-legal
returns-clause-legal c = subst (λ (v : Past). IsLegal v.session v.history) c.self.view_is c.self.invariant.legal
