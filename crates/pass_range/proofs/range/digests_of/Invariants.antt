use Rattle.std.proofs.Common.{◌≡◌, map, take}
use Rattle.md5.specs.Md5.{md5}
use Rattle.pass_range.specs.Rows.{range}
use Rattle.pass_range.proofs.range.digests_of.Given as goal

abbrev pub invariant-loop-block : goal.invariant-loop-block
invariant-loop-block l = l.digests.items ≡ map (λ block. md5 (range block l.content)) (take l.block-index l.blocks)
