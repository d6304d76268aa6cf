use Rattle.std.proofs.Common.{subst}
use Rattle.pass_trace.specs.TraceLines.{plain_trace}
use Rattle.pass_walk.proofs.meeting.met.Goals as goal
use Rattle.pass_walk.proofs.MetWalkers.{both_met}
use Rattle.pass_walk.specs.Meetings.{KnowsIfEnded}

pub returns-in-Living : goal.returns-in-Living
returns-in-Living g c =
    both_met g.J.Whose.book.session (plain_trace c.args.ground.now.plan.now) c.args.first.now c.args.other.now c.in-Living.living c.meet.new.self c.in-Ended.ended c.meet.new.ended c.in-Living.is c.in-Ended.is
    c.meet.ensures

pub meet-requires-clause-ended : goal.meet-requires-clause-ended
meet-requires-clause-ended g c = subst KnowsIfEnded c.in-Ended.is c.requires.other
