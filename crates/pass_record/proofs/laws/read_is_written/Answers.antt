use Rattle.pass_record.proofs.Records.{record_takes as the_law}
use Rattle.pass_record.proofs.laws.read_is_written.Goals as goal

pub returns : goal.returns
returns c = the_law
