use Rattle.std.proofs.Common.{◌≡◌, ◌∙◌, ap, arith}
use Rattle.pass_vault.specs.Pooled.{written_below, to_write}
use Rattle.pass_vault.proofs.unwritten.blocks_to_write.Goals as goal

pub returns : goal.returns
unfolding to_write
returns c =
    let l = c.loop-block in
    let all : l.block ≡ 1024 = omega (arith, c.loop-block-test.false, l.auto.block-end) in
    record { pairs = l.invariant.pairs ∙ ap (written_below c.args.pool.now c.args.number c.args.given.now) all; of_file = l.invariant.of_file }
