use Rattle.std.proofs.Common.{ap, ◌∙◌, subst, [], ◌∷◌}
use Rattle.std.proofs.lemmas.Result.{on_ok_weaker}
use Rattle.std.specs.Prelude.{ℕ, List}
use Rattle.pass_view.specs.Csvs.{Pushes, tags_text}
use Rattle.pass_view.proofs.Rows.{pushed}
use Rattle.pass_view.proofs.csvs.push_told.Goals as goal

pub returns : goal.returns
returns c = on_ok_weaker c.push-2.result (λ tags.
    pushed c.args.row.now c.push.new.row c.push-2.new.row _ _
    (subst (λ (w : List ℕ). Pushes c.args.row.now c.push.new.row (w ∷ [])) (c.as_bytes.ensures.value ∙ c.truth_word.ensures) c.in_ok-push.ensures)
    (subst (λ (w : List ℕ). Pushes c.push.new.row c.push-2.new.row (w ∷ [])) (c.deref-2.ensures.value ∙ c.in_ok-tags.ensures ∙ ap tags_text c.deref.ensures.value) tags)) c.push-2.ensures
