use Rattle.std.proofs.Common.{◌≡◌, ◌<◌, ◌∙◌, ap, refl, length, arith}
use Rattle.std.specs.Prelude.{Some, slice_get}
use Rattle.std.proofs.lemmas.Option.{slice_get_read}
use Rattle.pass_plain.specs.Calls.{Step, act_on}
use Rattle.pass_plain.proofs.Calling.{step_made}
use Rattle.pass_plain.proofs.Candidates.{front_of}
use Rattle.pass_reference.proofs.next.are_first.Goals as goal

pub returns-then-same_step : goal.returns-then-same_step
returns-then-same_step c =
    let next : Step = act_on c.args.what c.args.act.now in
    let same : c.index-steps-made.result ≡ next = c.same_step.ensures.0 c.if-same_step.true in
    let within : length c.args.made.now < length c.args.steps.now = omega arith in
    let last : slice_get c.args.steps.now (length c.args.made.now) ≡ Some c.index-steps-made.result =
    slice_get_read c.args.steps.now (length c.args.steps.now) (length c.args.made.now) c.index-steps-made.result refl within c.index-steps-made.is in (
      λ b. front_of c.args.made.now c.args.steps.now next (c.begin_with.ensures.0 b) (last ∙ ap (λ s. Some s) same),
      λ e. c.begin_with.ensures.1 (λ j m at. step_made c.args.made.now c.args.steps.now next e j m at),
    )
