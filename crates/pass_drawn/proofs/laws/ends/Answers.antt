use Rattle.pass_drawn.proofs.laws.ends.Goals as goal
use Rattle.pass_drawn.proofs.Moves.{never_stuck_law}

pub returns : goal.returns
returns c = record { never = never_stuck_law }
