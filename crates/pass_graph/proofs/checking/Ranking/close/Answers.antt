use Rattle.std.proofs.Common.{sym}
use Rattle.pass_graph.proofs.Closing.{now_closed}
use Rattle.pass_graph.proofs.checking.Ranking.close.Goals as goal

pub returns-in_ok-insert-clause-closed : goal.returns-in_ok-insert-clause-closed
returns-in_ok-insert-clause-closed c = λ list are end.
    now_closed list c.args.one.now c.args.place c.args.self.now.closed are end c.in-Some.node c.in-Some.ensures (sym c.if-not-contains_key.ensures) c.insert.new.self c.in_ok-insert.ensures.updates.0
