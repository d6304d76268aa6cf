use Rattle.pass_book.proofs.steps.write_down.Given as goal

abbrev pub ghosts-write : goal.ghosts-write
ghosts-write a = record { entry = a.entry.now }
