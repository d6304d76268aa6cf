use Rattle.std.proofs.Common.{arith, below_more}
use Rattle.pass_strace.proofs.translating.are_in_order.Goals as goal

pub loop-i-preserved : goal.loop-i-preserved
loop-i-preserved c =
    let below = below_more _ _ (λ k less. omega (arith, c.loop-i.invariant.below k less)) (omega arith) in
    record {
      below = below;
      rising = below_more _ _ c.loop-i.invariant.rising (λ i most. omega (arith, below i (omega arith)));
      within = below_more _ _ c.loop-i.invariant.within (omega arith);
    }
