use Rattle.pass_walk.proofs.walker.Living.step.Goals as goal
use Rattle.pass_walk.proofs.LinesAt.{within_lines}
use Rattle.pass_walk.proofs.OtherCalls.{other_than_fork}
use Rattle.pass_walk.proofs.Turning.{other_at}

pub line-line-requires : goal.line-line-requires
line-line-requires g c = within_lines g.J.Whose.book.session c.args.ground.now.plan.now c.args.self.now c.in-Some.place c.requires c.in-Some.is

pub make-requires : goal.make-requires
make-requires g c = record {
  living = c.requires;
  line = c.in-Some.is;
  other = other_at c.args.ground.now.plan.now c.in-Some.place c.line-line.result.now c.line-line.ensures (other_than_fork c.line-line.result.now.command c.in_default-command.not-Fork);
}
