use Rattle.std.specs.List.{All}
use Rattle.std.proofs.lemmas.List.Elements.{All-nil}
use Rattle.pass_entry.specs.Ranges.{IsInRange}
use Rattle.std.proofs.Common.{ℕ, sym, subst, ◌≡◌, ◌<◌, ◌∷◌, length, drop, rules, ap, ◌∙◌}
use Rattle.std.proofs.lemmas.List.{drop_more}
use Rattle.pass_log.specs.Records.{records_of}
use Rattle.pass_log.proofs.Reading.{read_none, read_more, read_bad, gives_fault}
use Rattle.pass_log.proofs.image.read_frames.Goals as goal

pub loop-rest-init : goal.loop-rest-init
loop-rest-init c = record { whole = read_none c.args.bytes.now c.new-list.result.items c.new-list.ensures.items; in_range = subst (All IsInRange) (sym c.new-list.ensures.items) (All-nil IsInRange) }

pub returns-in_err-read_frame-clause-exact : goal.returns-in_err-read_frame-clause-exact
returns-in_err-read_frame-clause-exact c = λ frames end whole.
    let rest = c.loop-rest.rest.now in
    let some : 0 < length rest = search rules in
    let gate : rest ≡ 1 ∷ drop 1 rest = drop_more rest 0 0 some ∙ ap (λ (g : ℕ). g ∷ drop 1 rest) c.if-rest-eq-OPEN.true in
    let bad = read_bad c.args.bytes.now rest c.loop-rest.list.items c.loop-rest.invariant.whole c.in-Some.frame.now c.in-Some.after.now gate c.in-Some.ensures.fits c.in-Some.ensures.frame c.in-Some.ensures.rest
    c.in_err-read_frame.field-0.0 frames end c.in_err-read_frame.ensures.err whole in
    gives_fault (λ list. list.items) c.from_residual.result c.in_err-read_frame.field-0.0 (records_of 0 frames) c.from_residual.ensures.1 bad

pub loop-rest-preserved : goal.loop-rest-preserved
loop-rest-preserved c =
    let rest = c.loop-rest.rest.now in
    let some : 0 < length rest = search rules in
    let gate : rest ≡ 1 ∷ drop 1 rest = drop_more rest 0 0 some ∙ ap (λ (g : ℕ). g ∷ drop 1 rest) c.if-rest-eq-OPEN.true in
    record {
      whole = read_more c.args.bytes.now rest c.loop-rest.list.items c.loop-rest.invariant.whole c.in-Some.frame.now c.in-Some.after.now gate c.in-Some.ensures.fits c.in-Some.ensures.frame c.in-Some.ensures.rest
          c.read_frame.new.list.items c.in_ok-read_frame.ensures.ok;
      in_range = c.in_ok-read_frame.ensures.in_range c.loop-rest.invariant.in_range;
    }
