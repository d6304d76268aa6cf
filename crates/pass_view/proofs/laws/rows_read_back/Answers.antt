use Rattle.pass_view.proofs.Readings.{read_back}
use Rattle.pass_view.proofs.laws.rows_read_back.Goals as goal

pub returns : goal.returns
returns c = read_back
