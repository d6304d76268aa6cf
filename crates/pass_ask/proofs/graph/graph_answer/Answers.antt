use Rattle.std.proofs.Common.{◌≡◌, sym, subst}
use Rattle.std.specs.Prelude.{◌↔◌, Err, Option, Some}
use Rattle.pass_entry.specs.declared.objects.Node.{Node}
use Rattle.pass_graph.specs.ListRanks.{HasNode}
use Rattle.pass_query.specs.declared.fault.QueryFault.TheVariants.{NoObject}
use Rattle.pass_ask.specs.GraphAnswers.{IsMissing}
use Rattle.pass_ask.specs.declared.words.GraphQuestion.{GraphQuestion}
use Rattle.pass_ask.proofs.graph.graph_answer.Goals as goal

pub returns-in-Recipe-clause-absent : goal.returns-in-Recipe-clause-absent
returns-in-Recipe-clause-absent c = λ n.
    subst (λ (q : GraphQuestion). (c.recipe_answer.result ≡ Err (NoObject n)) ↔ IsMissing c.args.index.now q n) (sym c.in-Recipe.is) (c.recipe_answer.ensures.absent n)

pub returns-in-View-clause-absent : goal.returns-in-View-clause-absent
returns-in-View-clause-absent c = λ n.
    subst (λ (q : GraphQuestion). (c.view_text.result ≡ Err (NoObject n)) ↔ IsMissing c.args.index.now q n) (sym c.in-View.is)
    (subst (λ (o : Option Node). (c.view_text.result ≡ Err (NoObject n)) ↔ ((o ≡ Some n) × ¬ (HasNode c.args.index.now n))) c.node_shown.ensures (c.view_text.ensures.absent n))

pub returns-in-Csv-clause-absent : goal.returns-in-Csv-clause-absent
returns-in-Csv-clause-absent c = λ n.
    subst (λ (q : GraphQuestion). (c.table_text.result ≡ Err (NoObject n)) ↔ IsMissing c.args.index.now q n) (sym c.in-Csv.is)
    (λ told. absurd (c.table_text.ensures.there n told), λ missing. absurd missing)

pub returns-in-Told-clause-absent : goal.returns-in-Told-clause-absent
returns-in-Told-clause-absent c = λ n.
    subst (λ (q : GraphQuestion). (c.inquire.result ≡ Err (NoObject n)) ↔ IsMissing c.args.index.now q n) (sym c.in-Told.is) (c.inquire.ensures.absent n)
