use Rattle.pass_outside.specs.Runs.{adds_nothing}
use Rattle.pass_standby.proofs.Keeping.{work_none}
use Rattle.pass_standby.proofs.standby.Standby.feed.Goals as goal
use Rattle.pass_log.proofs.Append.{leaves_none}

pub returns-in-Starved-clause-any_moment : goal.returns-in-Starved-clause-any_moment
returns-in-Starved-clause-any_moment g c = λ told. adds_nothing _ _

pub returns-in-Starved-clause-store : goal.returns-in-Starved-clause-store
returns-in-Starved-clause-store g c = leaves_none _

pub returns-in-Starved-clause-work : goal.returns-in-Starved-clause-work
returns-in-Starved-clause-work g c = work_none _ (λ err. absurd (cc))
