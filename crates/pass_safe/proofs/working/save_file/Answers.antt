use Rattle.std.proofs.Common.{ℕ, List, sym, subst}
use Rattle.pass_clean.specs.Blocks.{IsRisingBy}
use Rattle.pass_safe.proofs.working.save_file.Goals as goal

pub save_blocks-requires-clause-rising : goal.save_blocks-requires-clause-rising
save_blocks-requires-clause-rising g c = subst (λ (l : List (ℕ × List ℕ)). IsRisingBy l) (sym c.deref.ensures.value) c.in-Ok.ensures.rising
