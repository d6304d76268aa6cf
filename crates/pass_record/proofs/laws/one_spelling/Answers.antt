use Rattle.pass_record.proofs.Spellings.{one_spelling as the_law}
use Rattle.pass_record.proofs.laws.one_spelling.Goals as goal

pub returns : goal.returns
returns c = the_law
