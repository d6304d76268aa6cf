use Rattle.std.proofs.Common.{refl}
use Rattle.pass_slots.proofs.asking.asked.Goals as goal

pub returns-in-Err-clause-refused : goal.returns-in-Err-clause-refused
returns-in-Err-clause-refused g c = (c.in-Err.ensures.fault c.in-Err.fault).0 refl
