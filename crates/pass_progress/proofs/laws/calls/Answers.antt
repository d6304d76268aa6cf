use Rattle.pass_progress.proofs.Answering.{progress_law}
use Rattle.pass_progress.proofs.Syncing.{sync_law}
use Rattle.pass_progress.proofs.laws.calls.Goals as goal

pub returns-clause-progress : goal.returns-clause-progress
returns-clause-progress c = progress_law

pub returns-clause-sync : goal.returns-clause-sync
returns-clause-sync c = sync_law
