use Rattle.std.proofs.Common.{◌≡◌, arith, true, below_more}
use Rattle.pass_reference.proofs.next.fits_some.Goals as goal

pub loop-a-preserved : goal.loop-a-preserved
loop-a-preserved c =
    below_more _ _ c.loop-a.invariant (λ fits. absurd (let yes : c.in_ok-fits_first.field-0 ≡ true = c.in_ok-fits_first.ensures.1 fits in cc))

pub returns : goal.returns
returns c = (λ no. absurd (cc), λ some. absurd (c.loop-a.invariant some.0 (let short = some.1 in omega (arith, short)) some.2))
