use Rattle.pass_record.proofs.Records.{record_stays as the_law}
use Rattle.pass_record.proofs.laws.found_stays.Goals as goal

pub returns : goal.returns
returns c = the_law
