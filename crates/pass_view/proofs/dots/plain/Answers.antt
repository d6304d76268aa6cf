use Rattle.std.proofs.Common.{not, rules}
use Rattle.std.proofs.lemmas.Fn.{filter_same}
use Rattle.pass_view.proofs.dots.plain.Goals as goal

pub returns-clause-nodes : goal.returns-clause-nodes
returns-clause-nodes c = filter_same _ (λ s. not s.is_system) _ (λ x b q r. (search rules, search rules)) _ _ c.retain.ensures.filtered

pub returns-clause-edges : goal.returns-clause-edges
returns-clause-edges c = filter_same _ (λ e. not e.is_system) _ (λ x b q r. (search rules, search rules)) _ _ c.retain-2.ensures.filtered
