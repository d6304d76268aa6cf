use Rattle.std.proofs.Common.{◌≡◌, arith}
use Rattle.pass_vault.proofs.Pooling.{none_at_all}
use Rattle.pass_vault.proofs.unwritten.has_file.Goals as goal

pub returns-clause-none : goal.returns-clause-none
returns-clause-none c = λ none b.
    let all : c.loop-block.block ≡ 1024 = omega (arith, c.loop-block-test.false, c.loop-block.auto.block-end) in
    none_at_all c.args.number 1024 c.args.pool.now c.requires.within (λ q low. c.loop-block.invariant q (omega (arith, low, all))) b
