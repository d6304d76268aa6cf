use Rattle.pass_replay.proofs.Agreeing.{agree_law, one_replay_law}
use Rattle.pass_replay.proofs.InLine.{in_line_order_law}
use Rattle.pass_replay.proofs.Standstill.{end_law, still_law}
use Rattle.pass_replay.proofs.laws.orders.Goals as goal

pub returns-clause-agree : goal.returns-clause-agree
returns-clause-agree c = agree_law

pub returns-clause-one : goal.returns-clause-one
returns-clause-one c = one_replay_law

pub returns-clause-in_line : goal.returns-clause-in_line
returns-clause-in_line c = in_line_order_law

pub returns-clause-still : goal.returns-clause-still
returns-clause-still c = still_law

pub returns-clause-done : goal.returns-clause-done
returns-clause-done c = end_law
