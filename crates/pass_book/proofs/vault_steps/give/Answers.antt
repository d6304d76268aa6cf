use Rattle.std.proofs.Common.{refl, arith}
use Rattle.pass_book.proofs.Vaulting.{returns}
use Rattle.pass_book.proofs.vault_steps.give.Goals as goal

pub split_seat-requires : goal.split_seat-requires
split_seat-requires g c = let at = c.requires.at in (at.same, (let w = at.words in omega arith), returns _ _ _ _ at.named refl c.requires.desk c.requires.quiet)
