use Rattle.std.proofs.Common.{ap, ◌∙◌}
use Rattle.std.specs.FinSet.{remove}
use Rattle.pass_proc.specs.Views.{ChildrenView}
use Rattle.pass_proc.proofs.Sets.{children_with, set-remove}
use Rattle.pass_proc.proofs.children.Children.remove.Goals as goal

pub returns : goal.returns
returns c =
    let room = c.self.inside.room in
    ap (λ s. children_with s room) (set-remove c.self.inside.pnodes c.remove.new.self c.args.child c.remove.ensures.updates.0)
    ∙ ap (λ (v : ChildrenView). record v { pnodes = remove v.pnodes c.args.child }) c.self.view_is
