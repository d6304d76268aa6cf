use Rattle.pass_record.proofs.Spellings.{spelling-length as the_law}
use Rattle.pass_record.proofs.laws.spelling_length.Goals as goal

pub returns : goal.returns
returns c = the_law
