use Rattle.std.proofs.Common.{◌≡◌, map, take}
use Rattle.pass_file.proofs.Copying.{copy_of}
use Rattle.pass_file.proofs.digests.copies.Given as goal

abbrev pub invariant-loop-i : goal.invariant-loop-i
invariant-loop-i l = l.copies.items ≡ map (copy_of l.content.bytes) (take l.i l.blocks)
