use Rattle.std.proofs.Common.{◌≡◌, true, refl, []}
use Rattle.std.proofs.lemmas.Result.{IfOk-weaker}
use Rattle.pass_plain.specs.Calls.{Step, act_on}
use Rattle.pass_plain.specs.NextSteps.{denies}
use Rattle.pass_plain.proofs.Candidates.{at_refusal, no_refusal, fits-sound}
use Rattle.pass_reference.proofs.next.is_next_step.Goals as goal

pub returns-then-is_refusal : goal.returns-then-is_refusal
returns-then-is_refusal c =
    let (none, denied) = c.is_refusal.ensures.0 c.if-is_refusal.true in
    (λ _. at_refusal c.args.who c.args.before.now c.args.made.now c.args.call (act_on c.args.what c.args.act.now) none denied, λ _. refl)

pub returns : goal.returns
returns c =
    let next : Step = act_on c.args.what c.args.act.now in
    let called = c.are_of_call.ensures.0 (cc) in
    let no : (c.args.made.now ≡ []) × (denies c.args.who c.args.before.now c.args.call c.args.what c.args.act.now ≡ true) → ⊥ =
    λ both. let yes : c.is_refusal.result ≡ true = c.is_refusal.ensures.1 both in cc in
    IfOk-weaker c.fits_some.result _ _ (λ b is. (
      λ yes. fits-sound c.args.who c.args.before.now c.args.made.now c.args.call next called (is.0 yes),
      λ n. is.1 (no_refusal c.args.who c.args.before.now c.args.made.now c.args.call next no n),
    )) c.fits_some.ensures
