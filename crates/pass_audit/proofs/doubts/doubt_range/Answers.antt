use Rattle.std.proofs.Common.{◌≡◌, true, false, inl, inr, sym, ◌∙◌, arith}
use Rattle.std.proofs.lemmas.Bool.{cases_eq}
use Rattle.pass_entry.proofs.Lists.{alike}
use Rattle.pass_audit.proofs.doubts.doubt_range.Goals as goal

pub loop-block-preserved : goal.loop-block-preserved
loop-block-preserved c = λ b out.
    let d = c.in_ok-doubt.ensures b out in
    let was = c.loop-block.invariant b d.0 in (
      was.0,
      λ least less. elim (cases_eq c.loop-block.block b) [
        | inl same ↦ (let z : true ≡ false = sym (alike c.loop-block.block b same) ∙ d.1 in absurd (cc z))
        | inr other ↦ was.1 least (omega (arith, less, other))
      ],
    )

pub returns : goal.returns
returns c = λ b out.
    let was = c.loop-block.invariant b out in
    (was.0, λ least less. was.1 least (omega (arith, less, c.loop-block-test.false)))
