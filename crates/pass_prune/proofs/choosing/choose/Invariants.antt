use Rattle.pass_prune.proofs.choosing.choose.Given as goal

abbrev pub ghosts-add_named : goal.ghosts-add_named
ghosts-add_named a = record { name = a.blank.name; parts = a.blank.parts }
