use Rattle.pass_report.proofs.Minting.{opening_kinds}
use Rattle.pass_report.proofs.kinds.Kinds.new.Goals as goal

pub returns : goal.returns
returns c = λ start session same. opening_kinds start session same record { made = c.new.result; touched = c.new-2.result } c.new.ensures.empty c.new-2.ensures.empty
