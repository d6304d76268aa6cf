use Rattle.pass_replay.proofs.laws.rooms.Goals as goal
use Rattle.pass_replay.proofs.Replaying.{forks_done, places_left}

pub returns-clause-forks : goal.returns-clause-forks
returns-clause-forks c session trace members history ran = forks_done session trace members history ran

pub returns-clause-places : goal.returns-clause-places
returns-clause-places c session trace members history ran = places_left session trace members history ran
