use Rattle.std.proofs.Common.{◌∙◌, subst, [], ◌∷◌}
use Rattle.std.specs.Prelude.{ℕ, List, OnOk}
use Rattle.pass_view.specs.Csvs.{Pushes}
use Rattle.pass_view.proofs.csvs.push_key.Goals as goal

pub returns : goal.returns
returns c = subst (λ (key : List ℕ). OnOk c.push.result (Pushes c.args.row.now c.push.new.row (key ∷ []))) (c.deref.ensures.value ∙ c.in_ok-key.ensures) c.push.ensures
