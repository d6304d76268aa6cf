use Rattle.std.proofs.Common.{◌∙◌, subst, [], ◌∷◌}
use Rattle.std.specs.Prelude.{ℕ, List, OnOk}
use Rattle.pass_view.specs.Csvs.{Pushes}
use Rattle.pass_view.proofs.csvs.push_number.Goals as goal

pub returns : goal.returns
returns c = subst (λ (text : List ℕ). OnOk c.push.result (Pushes c.args.row.now c.push.new.row (text ∷ []))) (c.as_bytes.ensures.value ∙ c.in_ok-text.ensures.ok) c.push.ensures
