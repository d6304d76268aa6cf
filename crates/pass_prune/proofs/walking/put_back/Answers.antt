use Rattle.std.proofs.Common.{◌∙◌, sym, ap}
use Rattle.pass_prune.specs.Tables.{is_last_by}
use Rattle.pass_prune.proofs.Laying.{put_not}
use Rattle.pass_prune.proofs.walking.put_back.Goals as goal

pub returns-then-is_last : goal.returns-then-is_last
returns-then-is_last c = λ past made taken. put_not c.args.choice.now.leaves.now past c.args.leaf.now c.args.contents.now (ap (is_last_by c.args.choice.now) (sym c.node.ensures) ∙ sym c.is_last.ensures ∙ c.if-is_last.true) taken
