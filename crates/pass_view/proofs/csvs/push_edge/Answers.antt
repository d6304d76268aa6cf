use Rattle.std.proofs.Common.{◌∙◌, subst, [], ◌∷◌}
use Rattle.std.proofs.lemmas.Result.{on_ok_weaker}
use Rattle.std.specs.Prelude.{ℕ, List}
use Rattle.pass_view.specs.Csvs.{Pushes}
use Rattle.pass_view.proofs.Rows.{pushed}
use Rattle.pass_view.proofs.csvs.push_edge.Goals as goal

pub returns : goal.returns
returns c = on_ok_weaker c.push.result (λ word.
    pushed c.args.row.now c.push_key-2.new.row c.push.new.row _ _
    (pushed c.args.row.now c.push_key.new.row c.push_key-2.new.row _ _ c.in_ok-push_key.ensures c.in_ok-push_key-2.ensures)
    (subst (λ (w : List ℕ). Pushes c.push_key-2.new.row c.push.new.row (w ∷ [])) (c.as_bytes.ensures.value ∙ c.word.ensures) word)) c.push.ensures
