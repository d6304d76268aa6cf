use Rattle.std.proofs.Common.{ap, ◌∙◌}
use Rattle.pass_flow.specs.Entering.{current_node}
use Rattle.pass_flow.specs.Flows.{ObjectView}
use Rattle.pass_flow.proofs.Flowing.{node_is_current}
use Rattle.pass_pipe.proofs.desk.PipeDeskVersioned.current.Goals as goal

pub returns : goal.returns
returns g c =
    c.current.ensures ∙ node_is_current g.J.Whose.book c.self.inside.desk c.self.inside.versions c.self.invariant.0
    ∙ ap (λ (v : ObjectView). current_node g.J.Whose.book.session v.seen v.what) c.self.view_is
