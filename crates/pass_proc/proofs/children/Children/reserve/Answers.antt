use Rattle.std.proofs.Common.{ap, ◌∙◌}
use Rattle.pass_proc.specs.Views.{ChildrenView}
use Rattle.pass_proc.proofs.Sets.{children_with, set-same}
use Rattle.pass_proc.proofs.children.Children.reserve.Goals as goal

pub returns-in_ok-reserve-clause-same : goal.returns-in_ok-reserve-clause-same
returns-in_ok-reserve-clause-same c =
    ap (λ s. children_with s 1) (set-same c.self.inside.pnodes c.reserve.new.self c.reserve.ensures.keys.2)
    ∙ ap (λ (v : ChildrenView). record v { room = 1 }) c.self.view_is
