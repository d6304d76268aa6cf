use Rattle.std.proofs.Common.{ap, sym, ◌∙◌}
use Rattle.std.specs.FinSet.{contains}
use Rattle.pass_proc.specs.Views.{ChildrenView}
use Rattle.pass_proc.proofs.Sets.{contains-keys}
use Rattle.pass_proc.proofs.children.Children.has.Goals as goal

pub returns : goal.returns
returns c = c.contains.ensures ∙ sym (contains-keys c.self.inside.pnodes.keys c.args.child) ∙ ap (λ (v : ChildrenView). contains v.pnodes c.args.child) c.self.view_is
