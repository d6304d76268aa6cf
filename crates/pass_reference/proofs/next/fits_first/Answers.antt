use Rattle.std.proofs.Common.{arith}
use Rattle.pass_reference.proofs.next.fits_first.Goals as goal

pub returns : goal.returns
returns c = (λ no. absurd (cc), λ some. absurd (c.loop-b.invariant some.0 (let short = some.1 in omega (arith, short, c.seconds-b-end.ensures)) some.2))
