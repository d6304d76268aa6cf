use Rattle.std.proofs.Common.{arith}
use Rattle.pass_plain.proofs.KeptFiles.{few_blocks}
use Rattle.pass_plain.proofs.contents.Content.change.Goals as goal

pub add_digests-requires : goal.add_digests-requires
add_digests-requires c = omega (arith, few_blocks, c.requires, c.deref-2.ensures.len)

pub turn_rows-requires : goal.turn_rows-requires
turn_rows-requires c = omega (arith, few_blocks, c.requires, c.deref_mut.ensures.len)
