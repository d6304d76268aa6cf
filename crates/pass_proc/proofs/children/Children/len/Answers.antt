use Rattle.std.proofs.Common.{ap, sym, ◌∙◌}
use Rattle.std.specs.FinSet.{len}
use Rattle.pass_proc.specs.Views.{ChildrenView}
use Rattle.pass_proc.proofs.Sets.{len-keys}
use Rattle.pass_proc.proofs.children.Children.len.Goals as goal

pub returns-clause-len : goal.returns-clause-len
returns-clause-len c = c.len.ensures.len ∙ sym (len-keys c.self.inside.pnodes.keys c.len.ensures.unique) ∙ ap (λ (v : ChildrenView). len v.pnodes) c.self.view_is
