use Rattle.pass_standby.proofs.Standings.{standing_moments}
use Rattle.pass_standby.proofs.standby.Standby.go_on.Goals as goal

pub returns-in-Err-clause-any_moment : goal.returns-in-Err-clause-any_moment
returns-in-Err-clause-any_moment g c =
    standing_moments g.D.Disk.view c.self.inside.following c.self.inside.fate c.args.self.now c.feed.new.self.disk c.args.piece.now c.self.view_is c.feed.ensures.any_moment

pub returns-in-Ok-clause-any_moment : goal.returns-in-Ok-clause-any_moment
returns-in-Ok-clause-any_moment g c =
    standing_moments g.D.Disk.view c.self.inside.following c.self.inside.fate c.args.self.now c.feed.new.self.disk c.args.piece.now c.self.view_is c.feed.ensures.any_moment
