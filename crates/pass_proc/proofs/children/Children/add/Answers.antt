use Rattle.std.proofs.Common.{◌<◌, ◌-◌, ap, ◌∙◌, arith}
use Rattle.std.specs.FinSet.{insert}
use Rattle.std.specs.HashSet.{spare}
use Rattle.pass_proc.specs.Views.{ChildrenView}
use Rattle.pass_proc.proofs.Sets.{children_with, set-insert}
use Rattle.pass_proc.proofs.children.Children.add.Goals as goal
use Rattle.pass_entry.proofs.Variants.{on_ok}

pub returns : goal.returns
returns c =
    let same = ap (λ (v : ChildrenView). v.room) c.self.view_is in
    let room : 0 < spare c.self.inside.pnodes = let r = c.requires in let i = c.self.invariant in omega (arith, same, r, i) in
    let n = c.self.inside.room - 1 in
    ap (λ s. children_with s n) (set-insert c.self.inside.pnodes c.insert.new.self c.args.child (on_ok c.insert.result (c.insert.ensures.succeeds room) c.insert.ensures.updates).0)
    ∙ ap (λ (v : ChildrenView). children_with (insert v.pnodes c.args.child) (v.room - 1)) c.self.view_is
