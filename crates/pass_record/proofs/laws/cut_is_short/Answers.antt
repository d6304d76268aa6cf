use Rattle.pass_record.proofs.Spellings.{cut_is_short as the_law}
use Rattle.pass_record.proofs.laws.cut_is_short.Goals as goal

pub returns : goal.returns
returns c = the_law
