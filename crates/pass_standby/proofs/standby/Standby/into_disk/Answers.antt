use Rattle.pass_standby.proofs.Standings.{standing_leaves}
use Rattle.pass_standby.proofs.standby.Standby.into_disk.Goals as goal

pub returns-clause-leaves : goal.returns-clause-leaves
returns-clause-leaves g c = standing_leaves g.D.Disk.view c.self.inside.following c.self.inside.fate c.args.self c.self.view_is c.self.invariant
