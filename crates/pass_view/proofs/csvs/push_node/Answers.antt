use Rattle.std.proofs.lemmas.Result.{on_ok_weaker}
use Rattle.pass_view.proofs.Rows.{pushed}
use Rattle.pass_view.proofs.csvs.push_node.Goals as goal

pub returns : goal.returns
returns c = on_ok_weaker c.push_told.result (λ told.
    pushed c.args.row.now c.push_run.new.row c.push_told.new.row _ _
    (pushed c.args.row.now c.push_names.new.row c.push_run.new.row _ _
    (pushed c.args.row.now c.push_numbers.new.row c.push_names.new.row _ _ c.in_ok-push_numbers.ensures c.in_ok-push_names.ensures) c.in_ok-push_run.ensures) told) c.push_told.ensures
