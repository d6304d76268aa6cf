use Rattle.pass_report.proofs.Storing.{opening_files}
use Rattle.pass_report.proofs.files.Files.new.Goals as goal

pub returns : goal.returns
returns c = λ start session same sound. opening_files start session same sound record { alloc = c.args.alloc; files = c.new.result } c.new.ensures.empty
