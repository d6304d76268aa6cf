use Rattle.pass_book.specs.declared.view.Role.TheVariants.{Desk}
use Rattle.pass_book.proofs.steps.desk_again.Given as goal

abbrev pub ghosts-leave_as_desk : goal.ghosts-leave_as_desk
ghosts-leave_as_desk a = record { role = Desk; number = a.desk.now.value.me.0.name.number; looks = 0 }
