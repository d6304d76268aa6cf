use Rattle.pass_replay.proofs.laws.starts.Goals as goal
use Rattle.pass_replay.proofs.Started.{room_law}
use Rattle.pass_replay.proofs.Staying.{pnode_stays}

pub returns-clause-room : goal.returns-clause-room
returns-clause-room c = room_law

pub returns-clause-begun : goal.returns-clause-begun
returns-clause-begun c = pnode_stays
