use Rattle.pass_replay.proofs.laws.runs.Goals as goal
use Rattle.pass_replay.proofs.Replaying.{run_law, none_is_open}
use Rattle.pass_replay.proofs.Stuck.{stuck}

pub returns-clause-run : goal.returns-clause-run
returns-clause-run c = run_law

pub returns-clause-done : goal.returns-clause-done
returns-clause-done c = none_is_open

pub returns-clause-stuck : goal.returns-clause-stuck
returns-clause-stuck c session trace members history count ran halts = stuck session trace members history count ran halts
