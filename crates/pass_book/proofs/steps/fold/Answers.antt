use Rattle.std.proofs.Common.{arith}
use Rattle.pass_book.proofs.Joining.{folds}
use Rattle.pass_book.proofs.steps.fold.Goals as goal

pub join_seat-requires : goal.join_seat-requires
join_seat-requires c = let at = c.requires.at in (at.same, c.requires.same, c.requires.empty, (let w = at.words in omega arith), folds _ _ _ _ _ at.named c.requires.unlike)
