use Rattle.pass_standby.proofs.Standings.{standing_begun}
use Rattle.pass_standby.proofs.standby.Standby.open.Goals as goal

pub invariant_of-result : goal.invariant_of-result
invariant_of-result g c = standing_begun g.D.Disk.view _ c.in-Ok.ensures.kept c.new.ensures.items
