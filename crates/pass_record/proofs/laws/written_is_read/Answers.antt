use Rattle.pass_record.proofs.Records.{record_again as the_law}
use Rattle.pass_record.proofs.laws.written_is_read.Goals as goal

pub returns : goal.returns
returns c = the_law
