use Rattle.std.proofs.Common.{◌∙◌, sym}
use Rattle.pass_plain.proofs.Lists.{same_numbers}
use Rattle.pass_order.proofs.Joining.{still_ended, still_living}
use Rattle.pass_order.proofs.queue.is_still.Goals as goal

pub returns-in-Living : goal.returns-in-Living
returns-in-Living g c same = still_living c.args.count c.args.walker.now c.in-Living.living c.in-Living.is (sym c.seen.ensures ∙ same_numbers c.seen.result c.args.count same)

pub returns-in-Ended : goal.returns-in-Ended
returns-in-Ended g c seen = still_ended c.args.count c.args.walker.now c.in-Ended.ended c.in-Ended.is c.requires (c.has_seen.ensures seen)
