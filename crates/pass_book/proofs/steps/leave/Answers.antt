use Rattle.std.proofs.Common.{arith}
use Rattle.pass_book.proofs.Splitting.{leaves}
use Rattle.pass_book.proofs.steps.leave.Goals as goal

pub split_seat-requires : goal.split_seat-requires
split_seat-requires g c = let at = c.requires.at in (at.same, (let w = at.words in omega arith), leaves _ _ _ _ _ _ at.named c.requires.vault c.requires.free)
