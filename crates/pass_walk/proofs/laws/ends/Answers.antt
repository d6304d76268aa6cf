use Rattle.pass_walk.proofs.laws.ends.Goals as goal
use Rattle.pass_walk.proofs.Handing.{ran_to}

pub returns : goal.returns
returns c = record {
  ran = λ session places lines trails last history ordered objects enough ran legal told.
      ran_to c.runs.ensures.run c.runs.ensures.done c.runs.ensures.stuck c.rooms.ensures.forks c.rooms.ensures.places c.starts.ensures.room session places lines trails last history ordered objects enough ran legal told;
}
