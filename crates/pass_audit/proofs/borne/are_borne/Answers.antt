use Rattle.std.proofs.Common.{rules, ◌≡◌, ◌∙◌, ◌<◌, ℕ, Bool, true, false, sym, ap, arith, length}
use Rattle.std.specs.Prelude.{if◌then◌else◌}
use Rattle.std.specs.Ordering.{nat_cmp}
use Rattle.std.specs.BTreeMap.{get}
use Rattle.pass_leaf.specs.Keeping.{block_total}
use Rattle.pass_audit.specs.Audits.{is_part_borne}
use Rattle.pass_audit.proofs.Blocks.{holds, all_hold, one_fails}
use Rattle.pass_audit.proofs.borne.are_borne.Goals as goal

pub returns-then-not-is_part_borne-clause-borne : goal.returns-then-not-is_part_borne-clause-borne
returns-then-not-is_part_borne-clause-borne c =
    let f : ℕ → Bool = holds c.args.rows.now c.args.content.now in
    let block : ℕ = c.in-Some.block in
    let row : c.copied.result ≡ get nat_cmp c.args.rows.now block = search rules in
    let borne : c.is_part_borne.result ≡ false = search rules in
    let here : f block ≡ false = sym (c.is_part_borne.ensures ∙ (λ i. is_part_borne (row i) (c.part.ensures i))) ∙ borne in
    sym (one_fails f 0 (block_total (length c.args.content.now)) block (omega arith) (omega (arith, c.in-Some.ensures.some, c.loop-block.invariant.ends)) here)

pub loop-block-smaller : goal.loop-block-smaller
loop-block-smaller c =
    let there : c.remove.result ≡ true = c.remove.ensures.test ∙ c.in-Some.ensures.member in
    let one : ◌≡◌ {A = ℕ} (if c.remove.result then 1 else 0) 1 = ap {B = ℕ} (λ (t : Bool). if t then 1 else 0) there in
    omega (arith, c.remove.ensures.len, one)

pub returns-clause-borne : goal.returns-clause-borne
returns-clause-borne c =
    let f : ℕ → Bool = holds c.args.rows.now c.args.content.now in
    let n : ℕ = block_total (length c.args.content.now) in
    sym (all_hold f 0 n (λ b from below. let within : b < n = omega (arith, below) in c.loop-block.invariant.sure b within (c.in_default.ensures.none b (omega (arith, within, c.loop-block.invariant.ends)))))
