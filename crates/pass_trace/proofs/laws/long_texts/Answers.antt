use Rattle.pass_trace.proofs.TooLong.{too_long_is_none, too_long_stays}
use Rattle.pass_trace.proofs.laws.long_texts.Goals as goal

pub returns-clause-apart : goal.returns-clause-apart
returns-clause-apart c = too_long_is_none

pub returns-clause-stays : goal.returns-clause-stays
returns-clause-stays c = too_long_stays
