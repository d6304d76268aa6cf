use Rattle.std.proofs.Common.{ap, ◌∙◌}
use Rattle.pass_entry.specs.declared.objects.Node.{Node}
use Rattle.pass_flow.specs.Flows.{ObjectView}
use Rattle.pass_pipe.proofs.desk.PipeDeskVersioned.what.Goals as goal

pub returns : goal.returns
returns g c = ap (λ (n : Node). n.pnode) c.current.ensures ∙ c.self.invariant.0.node ∙ ap (λ (v : ObjectView). v.what) c.self.view_is
