use Rattle.std.proofs.Common.{◌≤◌, ℕ, length, subst, sym, ◌∙◌}
use Rattle.pass_trace.specs.declared.limits.Scale.{Scale}
use Rattle.pass_trace.specs.declared.limits.Scale.TheVariants.{Long}
use Rattle.pass_trace.specs.Limits.{most_lines}
use Rattle.pass_gen.specs.Generated.{generated}
use Rattle.pass_gen.proofs.Follows.{follows}
use Rattle.pass_gen.proofs.Numbers.{length-generated, numbered}
use Rattle.pass_gen.proofs.laws.generated_is_read.Goals as goal

few : (scale : Scale) (number lines : ℕ) → 15 ≤ lines → lines ≤ most_lines scale → length (generated number lines) ≤ most_lines scale
few scale number lines least most = subst (λ n. n ≤ most_lines scale) (sym (length-generated number lines least)) most

pub returns-clause-text : goal.returns-clause-text
returns-clause-text c scale number lines least most =
    c.lines_that_follow.ensures.text scale (generated number lines) (follows scale number lines) (few scale number lines least most)

pub returns-clause-trace : goal.returns-clause-trace
returns-clause-trace c number lines least most =
    sym (c.lines_that_follow.ensures.trace Long (generated number lines) (follows Long number lines) (few Long number lines least most) ∙ numbered number lines)
