use Rattle.std.proofs.Common.{ap, ◌∙◌, arith}
use Rattle.pass_book.proofs.Loading.{takes}
use Rattle.pass_book.proofs.Vaulting.{lends, vault_unlike}
use Rattle.pass_book.proofs.vault_steps.lend.Goals as goal

pub join_seat-requires : goal.join_seat-requires
join_seat-requires c = let at = c.requires.at in (at.same, c.requires.same, c.requires.desk.1, (let w = at.words in omega arith), lends _ _ _ _ _ at.named c.requires.desk.0 c.requires.quiet)

pub load-requires : goal.load-requires
load-requires c =
    let at = c.requires.at in
    let j = c.join_seat.ensures in
    (j.0 ∙ at.same, (let w = at.words in omega arith), takes _ _ _ _ (vault_unlike c.join_seat.new.seat.me.0 (ap (λ m. m.0.name) j.2 ∙ at.named)))
