use Rattle.pass_book.specs.declared.view.Role.TheVariants.{Desk}
use Rattle.pass_book.proofs.vault_steps.give_desk.Given as goal

abbrev pub ghosts-give_named : goal.ghosts-give_named
ghosts-give_named a = record { role = Desk; number = a.desk.now.value.me.0.name.number; looks = 0 }
