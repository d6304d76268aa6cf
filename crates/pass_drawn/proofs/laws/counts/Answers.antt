use Rattle.pass_drawn.proofs.laws.counts.Goals as goal
use Rattle.pass_drawn.proofs.Answered.{answered_law}

pub returns : goal.returns
returns c = record { answered = answered_law }
