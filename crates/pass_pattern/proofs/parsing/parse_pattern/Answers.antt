use Rattle.std.proofs.Common.{◌≡◌, length, sym, ◌∙◌, subst, arith}
use Rattle.pass_pattern.specs.declared.fault.PatternFault.TheVariants as fault
use Rattle.pass_pattern.specs.Patterns.{shape_of}
use Rattle.pass_pattern.specs.Reading.{state_of}
use Rattle.pass_pattern.proofs.Judging.{HasRead, more_read, refused_long, refused_bad, read_pattern, ended_bad}
use Rattle.pass_pattern.proofs.parsing.parse_pattern.Goals as goal
use Rattle.pass_entry.proofs.Variants.{err_inside}

pub returns-in-Err-clause-long : goal.returns-in-Err-clause-long
returns-in-Err-clause-long c =
    λ is. refused_long c.args.text.now c.loop-at.at (state_of c.loop-at.reader) c.in-Err.refusal (omega (arith, c.if-text-gt-TEXT_LIMIT.false)) c.loop-at.invariant c.loop-at-test.true c.in-Err.ensures
    (sym c.fault_at.ensures ∙ err_inside c.fault_at.result fault.Long is)

pub returns-in-Err-clause-bad : goal.returns-in-Err-clause-bad
returns-in-Err-clause-bad c =
    λ place is. refused_bad c.args.text.now c.loop-at.at (state_of c.loop-at.reader) c.in-Err.refusal (omega (arith, c.if-text-gt-TEXT_LIMIT.false)) c.loop-at.invariant c.loop-at-test.true c.in-Err.ensures place
    (sym c.fault_at.ensures ∙ err_inside c.fault_at.result (fault.Bad place) is)

pub loop-at-preserved : goal.loop-at-preserved
loop-at-preserved c = more_read c.args.text.now c.loop-at.at (state_of c.loop-at.reader) c.in-Ok.next c.loop-at.invariant c.loop-at-test.true c.in-Ok.ensures

pub returns-in-Ok-finish-clause-pattern : goal.returns-in-Ok-finish-clause-pattern
returns-in-Ok-finish-clause-pattern c =
    let whole : c.loop-at.at ≡ length c.args.text.now = omega (arith, c.loop-at-test.false, c.loop-at.auto.at-end) in
    read_pattern c.args.text.now (state_of c.loop-at.reader) (omega (arith, c.if-text-gt-TEXT_LIMIT.false)) (subst (λ n. HasRead c.args.text.now n (state_of c.loop-at.reader)) whole c.loop-at.invariant)
    (shape_of c.in-Ok-finish.pattern) c.in-Ok-finish.ensures

pub returns-in-Err-finish-clause-bad : goal.returns-in-Err-finish-clause-bad
returns-in-Err-finish-clause-bad c =
    let whole : c.loop-at.at ≡ length c.args.text.now = omega (arith, c.loop-at-test.false, c.loop-at.auto.at-end) in
    λ place is. ended_bad c.args.text.now (state_of c.loop-at.reader) c.in-Err-finish.refusal (omega (arith, c.if-text-gt-TEXT_LIMIT.false)) (subst (λ n. HasRead c.args.text.now n (state_of c.loop-at.reader)) whole c.loop-at.invariant)
    c.in-Err-finish.ensures place (sym c.fault_at-in-Err-finish.ensures ∙ err_inside c.fault_at-in-Err-finish.result (fault.Bad place) is)
