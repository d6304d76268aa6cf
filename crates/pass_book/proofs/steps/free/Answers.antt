use Rattle.std.proofs.Common.{arith}
use Rattle.pass_book.proofs.Loading.{frees}
use Rattle.pass_book.proofs.steps.free.Goals as goal

pub load-requires : goal.load-requires
load-requires c = let at = c.requires.at in (at.same, (let w = at.words in omega arith), frees _ _ _ _ at.named)
