use Rattle.pass_past.proofs.Consistent.{consistent}
use Rattle.pass_past.proofs.laws.agreeing.Goals as goal

pub returns : goal.returns
returns c = λ session sound history legal. consistent session sound history legal
