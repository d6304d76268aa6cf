use Rattle.std.proofs.Common.{ap, ◌∙◌, subst, [], ◌∷◌}
use Rattle.std.proofs.lemmas.Result.{on_ok_weaker}
use Rattle.std.specs.Prelude.{ℕ, List}
use Rattle.pass_view.specs.Csvs.{Pushes, given_or_empty}
use Rattle.pass_view.proofs.Rows.{pushed}
use Rattle.pass_view.proofs.csvs.push_run.Goals as goal

pub returns : goal.returns
returns c = on_ok_weaker c.push-2.result (λ arguments.
    pushed c.args.row.now c.push.new.row c.push-2.new.row _ _
    (subst (λ (w : List ℕ). Pushes c.args.row.now c.push.new.row (w ∷ [])) (c.given_or_empty.ensures ∙ ap given_or_empty c.ran.ensures) c.in_ok-push.ensures)
    (subst (λ (w : List ℕ). Pushes c.push.new.row c.push-2.new.row (w ∷ [])) (c.given_or_empty-2.ensures ∙ ap given_or_empty c.ran_with.ensures) arguments)) c.push-2.ensures
