use Rattle.pass_record.proofs.Spellings.{bytes_want_no_memory as the_law}
use Rattle.pass_record.proofs.laws.bytes_want_no_memory.Goals as goal

pub returns : goal.returns
returns c = the_law
