use Rattle.std.proofs.Common.{arith}
use Rattle.pass_book.proofs.Splitting.{claims_more}
use Rattle.pass_book.proofs.steps.claim.Goals as goal

pub split_seat-requires : goal.split_seat-requires
split_seat-requires g c = let at = c.requires.at in (at.same, (let w = at.words in omega arith), claims_more _ _ _ _ at.named)
