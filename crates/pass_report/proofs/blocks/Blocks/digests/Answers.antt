use Rattle.std.proofs.Common.{◌≡◌, ◌||◌, true, false, ℕ, Bool, sym, ap, ◌∙◌, arith}
use Rattle.std.proofs.lemmas.Bool.{or_right, or_from}
use Rattle.pass_plain.specs.Records.{touches}
use Rattle.pass_report.specs.Digests.{gets_digest, is_stretched, row_at}
use Rattle.pass_report.proofs.Digesting.{counted, none_below, none_between, none_gets_behind, none_gets_below, skipped}
use Rattle.pass_report.proofs.blocks.Blocks.digests.Goals as goal
use Rattle.pass_report.proofs.blocks.Blocks.digests.Goals.{then-touches, then-touches-via-then-touches, then-touches-via-else-touches+then-is_stretched, else-touches+else-is_stretched}

pub loop-block-init : goal.loop-block-init
loop-block-init c = record {
  count = none_below (gets_digest (row_at c.args.self.now.rows.items) c.args.self.now.size c.args.at c.args.len c.args.size) c.blocks_between-first.result.0 (λ k low.
      none_gets_below (row_at c.args.self.now.rows.items) c.args.self.now.size c.args.at c.args.len c.args.size k
      (λ some. (let z = (c.stretch-low.ensures.written some).0 in let y = c.blocks_between-first.ensures.low in omega (arith, z, y, low)))
      (λ apart. (let z = c.stretch-low.ensures.sized apart in let y = c.blocks_between-first.ensures.low in (omega (arith, z.0, y, low), omega (arith, z.1, y, low)))));
  few = omega arith;
}

pub loop-block-preserved : goal.loop-block-preserved
loop-block-preserved c =
    let test : ℕ → Bool = gets_digest (row_at c.args.self.now.rows.items) c.args.self.now.size c.args.at c.args.len c.args.size in
    let n = c.loop-block.block in
    elim c.if-touches.branch [
      | then-touches w ↦
          let passes : test n ≡ true = elim w.then-touches.branch [
            | then-touches-via-then-touches v ↦ ap (λ b. b || is_stretched (row_at c.args.self.now.rows.items) c.args.self.now.size c.args.size n) (sym c.touches.ensures ∙ v.if-touches.true)
            | then-touches-via-else-touches+then-is_stretched v ↦ or_right (touches c.args.at c.args.len n) _ (sym v.is_stretched.ensures ∙ v.if-is_stretched.true)
          ] in
          record { count = w.digests-is ∙ counted test n c.loop-block.digests passes c.loop-block.invariant.count; few = omega arith }
      | else-touches+else-is_stretched w ↦
          let fails : test n ≡ false = or_from (touches c.args.at c.args.len n) _ (sym c.touches.ensures ∙ w.if-touches.false) (sym w.is_stretched.ensures ∙ w.if-is_stretched.false) in
          record { count = w.digests-is ∙ skipped test n c.loop-block.digests fails c.loop-block.invariant.count; few = omega arith }
    ]

pub returns-clause-count : goal.returns-clause-count
returns-clause-count c =
    c.loop-block.invariant.count
    ∙ none_between (gets_digest (row_at c.args.self.now.rows.items) c.args.self.now.size c.args.at c.args.len c.args.size) c.loop-block.block 1024 (omega arith) (λ k from to.
    none_gets_behind (row_at c.args.self.now.rows.items) c.args.self.now.size c.args.at c.args.len c.args.size k
    (λ some. (let z = (c.stretch-low.ensures.written some).1 in let y = c.blocks_between-first.ensures.high k (omega (arith, from)) to in omega (arith, z, y)))
    (λ apart. (let z = c.stretch-low.ensures.sized apart in let y = c.blocks_between-first.ensures.high k (omega (arith, from)) to in omega (arith, z.3, y))))
