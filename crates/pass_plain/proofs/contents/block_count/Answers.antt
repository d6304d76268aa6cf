use Rattle.std.proofs.Common.{refl}
use Rattle.pass_plain.specs.Recording.{block_count}
use Rattle.pass_plain.proofs.contents.block_count.Goals as goal

pub returns : goal.returns
unfolding block_count
returns c = refl
