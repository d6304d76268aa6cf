use Rattle.std.proofs.Common.{◌∙◌, List, ap}
use Rattle.std.proofs.lemmas.Result.{on_ok_weaker}
use Rattle.pass_leaf.specs.Keeping.{FileVersion}
use Rattle.pass_past.specs.Keepings.{IsKeeping, IsHalted}
use Rattle.pass_past.proofs.Goings.{err_weaker}
use Rattle.pass_prune.specs.Tables.{is_chosen_by}
use Rattle.pass_prune.proofs.Laying.{chosen_so, chosen_not}
use Rattle.pass_prune.proofs.walking.keep_where.Goals as goal

pub returns-then-not-has-clause-kept : goal.returns-then-not-has-clause-kept
returns-then-not-has-clause-kept g c = λ past made first done h.
    chosen_not (λ (l : List FileVersion). IsKeeping g.F.Disk.view first l c.args.old.now) (is_chosen_by c.args.choice.now) past c.args.leaf.now done c.has.result (c.has.ensures ∙ ap (is_chosen_by c.args.choice.now) c.node.ensures) (λ yes. cc (yes, c.if-not-has.true)) h

pub returns-clause-kept : goal.returns-clause-kept
returns-clause-kept g c = on_ok_weaker c.keep_next.result (λ kept past made first done h.
    chosen_so (λ (l : List FileVersion). IsKeeping g.F.Disk.view first l c.keep_next.new.old) (is_chosen_by c.args.choice.now) past c.args.leaf.now done c.has.result c.node-2.result c.args.content.now c.node-2.ensures
    (c.has.ensures ∙ ap (is_chosen_by c.args.choice.now) c.node.ensures) made c.if-not-has.false (kept first done h))
    c.keep_next.ensures.kept

pub returns-clause-stopped : goal.returns-clause-stopped
returns-clause-stopped g c = err_weaker c.keep_next.result _ _ (λ e stopped past made first done h.
    chosen_so (λ (l : List FileVersion). IsHalted g.F.Disk.view first l c.keep_next.new.old e) (is_chosen_by c.args.choice.now) past c.args.leaf.now done c.has.result c.node-2.result c.args.content.now c.node-2.ensures
    (c.has.ensures ∙ ap (is_chosen_by c.args.choice.now) c.node.ensures) made c.if-not-has.false (stopped first done h))
    c.keep_next.ensures.stopped
