use Rattle.std.proofs.Common.{ap, sym, ◌∙◌}
use Rattle.std.specs.FinSet as finite_set
use Rattle.pass_plain.specs.Processes.{Process}
use Rattle.pass_plain.proofs.Children.{contains-set}
use Rattle.pass_plain.proofs.process.ProcessState.has_child.Goals as goal

pub returns : goal.returns
returns c =
    c.contains.ensures ∙ sym (contains-set c.self.inside.children c.args.child)
    ∙ ap (λ (p : Process). finite_set.contains p.children c.args.child) c.self.view_is
