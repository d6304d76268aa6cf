use Rattle.std.proofs.Common.{◌≡◌}
use Rattle.pass_outside.specs.Moments.{IsAtEnd}
use Rattle.pass_keep.specs.Dirty.{IsWriting}
use Rattle.pass_keep.proofs.block.write_blocks.Given as goal

abbrev pub invariant-loop-one : goal.invariant-loop-one
invariant-loop-one g l = record {
  writing : IsWriting l.blocks (g.D.Disk.view l.fn.disk) (g.D.Disk.view l.disk) l.one-index;
  stands : IsAtEnd (g.D.Disk.view l.fn.disk) → l.disk ≡ l.fn.disk;
}
