use Rattle.std.proofs.Common.{subst, [], ◌∷◌}
use Rattle.std.specs.Prelude.{OnOk, decimal}
use Rattle.std.proofs.lemmas.Result.{on_ok_weaker}
use Rattle.pass_entry.specs.declared.objects.Node.{Node}
use Rattle.pass_view.specs.Csvs.{Pushes, node_key}
use Rattle.pass_view.proofs.Rows.{pushed}
use Rattle.pass_view.proofs.csvs.push_numbers.Goals as goal

pub returns : goal.returns
returns c =
    subst
    (λ (own : Node). OnOk c.push_number-2.result
    (Pushes c.args.row.now c.push_number-2.new.row (node_key c.args.store.now c.args.node.now ∷ c.args.store.now ∷ decimal own.pnode ∷ decimal own.version ∷ [])))
    c.node.view_is
    (on_ok_weaker c.push_number-2.result (λ version.
    pushed c.args.row.now c.push_number.new.row c.push_number-2.new.row _ _
    (pushed c.args.row.now c.push.new.row c.push_number.new.row _ _
    (pushed c.args.row.now c.push_key.new.row c.push.new.row _ _ c.in_ok-push_key.ensures c.in_ok-push.ensures) c.in_ok-push_number.ensures) version) c.push_number-2.ensures)
