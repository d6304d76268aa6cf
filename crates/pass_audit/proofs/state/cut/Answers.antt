use Rattle.std.proofs.Common.{◌≡◌, ◌∙◌, ◌<◌, ◌≤◌, ◌+◌, ◌*◌, ℕ, Bool, true, false, not, cond, refl, ap, arith}
use Rattle.std.specs.Prelude.{None, nat_le}
use Rattle.std.specs.Cmp.{nat_cmp_total, ranks}
use Rattle.std.specs.Ordering.{MatchOrdering, nat_cmp, is_gt, is_le}
use Rattle.std.specs.BTreeMap.{get}
use Rattle.std.specs.declared.cmp.Ordering.{Ordering}
use Rattle.std.specs.declared.cmp.Ordering.TheVariants.{Less, Equal, Greater}
use Rattle.std.proofs.lemmas.Bool.{leb-true, leb-false}
use Rattle.std.proofs.lemmas.Grind.{div_ceil_times}
use Rattle.std.proofs.lemmas.Map.Views.{get-entries_below, get-entries_from}
use Rattle.pass_audit.proofs.state.cut.Goals as goal

-- the blocks below the first one that is cut are those that begin below the size
below_first : (first size block : ℕ) → size ≤ first * 4096 → first * 4096 < size + 4096 → is_gt (nat_cmp first block) ≡ not (nat_le size (block * 4096))
below_first first size block low high = by (nat_cmp first block) (ranks first block) (nat_le size (block * 4096)) refl
  where
    by : (o : Ordering) → MatchOrdering o (first < block) (first ≡ block) (block < first) → (b : Bool) → nat_le size (block * 4096) ≡ b → is_gt o ≡ not b
    by Less is true e = refl
    by Less is false e = absurd (omega (arith, low, is, leb-false size (block * 4096) e))
    by Equal is true e = refl
    by Equal is false e = absurd (omega (arith, low, is, leb-false size (block * 4096) e))
    by Greater is true e = absurd (omega (arith, high, is, leb-true size (block * 4096) e))
    by Greater is false e = refl

turned : {X : Type 0} (b : Bool) (x y : X) → cond (not b) x y ≡ cond b y x
turned true x y = refl
turned false x y = refl

from_first : (first size block : ℕ) → size ≤ first * 4096 → first * 4096 < size + 4096 → is_le (nat_cmp first block) ≡ nat_le size (block * 4096)
from_first first size block low high = at_most (nat_cmp first block) ∙ ap not (below_first first size block low high) ∙ twice (nat_le size (block * 4096))
  where
    at_most : (o : Ordering) → is_le o ≡ not (is_gt o)
    at_most Less = refl
    at_most Equal = refl
    at_most Greater = refl

    twice : (b : Bool) → not (not b) ≡ b
    twice true = refl
    twice false = refl

pub returns-clause-left : goal.returns-clause-left
returns-clause-left c = λ block.
    let size : ℕ = c.args.size in
    let rows = c.args.rows.now in
    let within = div_ceil_times size 4096 (omega arith) in
    get-entries_below nat_cmp_total rows c.split_off.new.self c.div_ceil-first.result block c.in_ok-gone.ensures.below
    ∙ ap (λ (b : Bool). cond b (get nat_cmp rows block) None) (ap (λ (n : ℕ). is_gt (nat_cmp n block)) c.div_ceil-first.ensures ∙ below_first _ size block within.0 within.1)
    ∙ turned (nat_le size (block * 4096)) (get nat_cmp rows block) None

pub returns-clause-gone : goal.returns-clause-gone
returns-clause-gone c = λ block.
    let size : ℕ = c.args.size in
    let rows = c.args.rows.now in
    let within = div_ceil_times size 4096 (omega arith) in
    get-entries_from nat_cmp_total rows c.in_ok-gone.gone c.div_ceil-first.result block c.in_ok-gone.ensures.from
    ∙ ap (λ (b : Bool). cond b (get nat_cmp rows block) None) (ap (λ (n : ℕ). is_le (nat_cmp n block)) c.div_ceil-first.ensures ∙ from_first _ size block within.0 within.1)
