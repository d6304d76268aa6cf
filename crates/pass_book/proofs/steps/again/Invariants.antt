use Rattle.std.proofs.Common.{◌+◌}
use Rattle.pass_book.specs.declared.view.Role.TheVariants.{Line}
use Rattle.pass_book.proofs.steps.again.Given as goal

abbrev pub ghosts-leave_again : goal.ghosts-leave_again
ghosts-leave_again a = record { role = Line; number = a.line.now.value.me.0.name.number; looks = a.line.now.value.me.0.looks + 1 }
