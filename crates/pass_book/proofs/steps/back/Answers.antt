use Rattle.std.proofs.Common.{arith}
use Rattle.pass_book.proofs.Loading.{learns}
use Rattle.pass_book.proofs.steps.back.Goals as goal

pub load-requires : goal.load-requires
load-requires c = let at = c.requires.at in (at.same, (let w = at.words in omega arith), learns _ _ _ _ at.named)
