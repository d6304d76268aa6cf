use Rattle.pass_keep.specs.Keepers.{IsKeeper}
use Rattle.pass_keep.proofs.Shown.{since_shown, matched_shown, settled_shown, timed_shown, longer_shown}
use Rattle.pass_keep.proofs.keeper.Keeper.images.Goals as goal

pub returns-clause-begun : goal.returns-clause-begun
returns-clause-begun g c = let keeper : IsKeeper g.D.Disk.view g.past c.args.self.now = c.requires.1 in keeper.kept.begun

pub returns-clause-since : goal.returns-clause-since
returns-clause-since g c = since_shown g.D.Disk.view g.past c.args.self.now c.requires.1

pub returns-clause-matched : goal.returns-clause-matched
returns-clause-matched g c = matched_shown g.D.Disk.view g.past c.args.self.now c.requires.1

pub returns-clause-settled : goal.returns-clause-settled
returns-clause-settled g c = settled_shown g.D.Disk.view g.past c.args.self.now c.requires.1 (λ t u i le left. g.met.D.Disk.counts_more c.args.self.now.disk t u i le left)

pub returns-clause-longer : goal.returns-clause-longer
returns-clause-longer g c = longer_shown g.D.Disk.view g.past c.args.self.now c.requires.1

pub returns-clause-timed : goal.returns-clause-timed
returns-clause-timed g c = timed_shown g.D.Disk.view g.past c.args.self.now c.requires.1
