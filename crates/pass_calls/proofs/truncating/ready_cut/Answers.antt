use Rattle.pass_calls.proofs.truncating.ready_cut.Goals as goal
use Rattle.pass_entry.proofs.Variants.{ok_always}

pub returns-clause-room : goal.returns-clause-room
returns-clause-room g c = let made = c.in_ok-reserve.ensures in ok_always c.cut_records.result _ (made.room, made.spare)
