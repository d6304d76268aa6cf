use Rattle.std.proofs.Common.{sym, ◌∙◌}
use Rattle.std.proofs.lemmas.Result.{on_ok_weaker}
use Rattle.pass_view.specs.Provs.{link_member, same_relation}
use Rattle.pass_view.proofs.Adding.{added_if, none_unless}
use Rattle.pass_view.proofs.provs.write_related.Goals as goal

pub returns-then-is_same : goal.returns-then-is_same
returns-then-is_same c =
    on_ok_weaker c.write_link.result
    (added_if c.args.out.now c.write_link.new.out (same_relation c.args.link.now.relation c.args.relation) (link_member c.args.link.now) (sym c.is_same.ensures ∙ c.if-is_same.true))
    c.write_link.ensures

pub returns-else-is_same : goal.returns-else-is_same
returns-else-is_same c =
    none_unless c.args.out.now (same_relation c.args.link.now.relation c.args.relation) (link_member c.args.link.now) (sym c.is_same.ensures ∙ c.if-is_same.false)
