use Rattle.pass_view.proofs.Rows.{ended}
use Rattle.pass_view.proofs.csvs.end.Goals as goal

pub returns-in-Ok : goal.returns-in-Ok
returns-in-Ok c = ended c.args.out c.in-Ok.text c.in-Ok.ensures.ok
