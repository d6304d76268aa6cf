-- The words of a generator, one more.
use Rattle.std.proofs.Common.{◌≡◌, ℕ, suc, ◌+◌, ap, arith}
use Rattle.rand_pcg.specs.Pcg.{pcg32}
use Rattle.pass_gen.specs.Generated.{drawn}

pub drawn_next : (number n : ℕ) → (pcg32 (drawn number n)).1 ≡ drawn number (n + 1)
unfolding drawn
drawn_next number n = ap (λ m. drawn number m) (let e : suc n ≡ n + 1 = omega arith in e)
