use Rattle.std.proofs.Common.{rules, ◌≡◌, ◌<◌, true, get_or, sym, ◌∙◌, arith}
use Rattle.std.specs.Prelude.{Contains}
use Rattle.pass_log.proofs.Crash.{image_scan}
use Rattle.pass_standby.specs.Logs.{IsBroken}
use Rattle.pass_standby.specs.Sending.{places}
use Rattle.pass_standby.specs.Streams.{is_open}
use Rattle.pass_standby.proofs.Places.{sought_none, sought_more, sought_broken, sought_ends, same_place}
use Rattle.pass_standby.proofs.sending.is_place.Goals as goal

pub loop-place-init : goal.loop-place-init
loop-place-init c = sought_none c.args.bytes.now c.args.from (omega (arith, c.requires.some))

pub loop-place-preserved : goal.loop-place-preserved
loop-place-preserved c =
    let below : c.loop-place.place < c.args.from = search rules in
    sought_more c.args.bytes.now c.loop-place.rest.now c.loop-place.place c.args.from c.loop-place.invariant below c.in-Some.frame.now c.in-Some.after.now
    c.in-Some.ensures.fits c.in-Some.ensures.frame c.in-Some.ensures.more

pub returns-in_default : goal.returns-in_default
returns-in_default c = λ frames found.
    let rest = c.loop-place.rest.now in
    let gate : is_open rest ≡ true = search rules in
    let broken : IsBroken rest = search rules in (
      λ taken. absurd (cc taken),
      λ there. absurd (sought_broken c.args.bytes.now rest c.loop-place.place c.args.from c.loop-place.invariant gate broken frames
          (sym (image_scan c.args.bytes.now c.requires.some (omega (arith, c.requires.fits))) ∙ found)),
    )

pub returns : goal.returns
returns c = λ frames found.
    let rest = c.loop-place.rest.now in
    let shut : c.loop-place.place < c.args.from → get_or rest 0 0 ≡ 1 → ⊥ = search rules in
    same_place c.loop-place.place c.args.from (Contains (places 0 frames.list) c.args.from)
    (sought_ends c.args.bytes.now rest c.loop-place.place c.args.from c.loop-place.invariant shut frames
    (sym (image_scan c.args.bytes.now c.requires.some (omega (arith, c.requires.fits))) ∙ found))
