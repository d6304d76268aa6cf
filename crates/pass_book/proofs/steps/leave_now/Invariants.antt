use Rattle.pass_book.proofs.steps.leave_now.Given as goal

abbrev pub ghosts-leave_named : goal.ghosts-leave_named
ghosts-leave_named a = record { role = a.role; number = a.number; looks = 0 }
