use Rattle.std.proofs.Common.{◌≡◌, ◌⊎◌, inl, inr}
use Rattle.std.proofs.lemmas.Result.{on_ok_weaker}
use Rattle.pass_pattern.specs.Visits.{visit}
use Rattle.pass_pattern.proofs.Visiting.{adds_on}
use Rattle.pass_pattern.proofs.search.both.Goals as goal

pub returns : goal.returns
returns c =
    let left = visit c.args.node.now c.args.one in
    let right = visit c.args.node.now c.args.other in
    on_ok_weaker c.add-2.result (λ second.
    adds_on (λ x. x ≡ left) (λ x. x ≡ right) (λ x. (x ≡ left) ⊎ (x ≡ right)) c.args.visits.now.keys c.add.new.visits.keys c.add-2.new.visits.keys c.in_ok-add.ensures second (λ x same. inl same) (λ x same. inr same) (λ x either. either)) c.add-2.ensures
