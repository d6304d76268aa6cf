use Rattle.pass_safe.specs.Grounds.{ground_of}
use Rattle.tests_procs.proofs.answers.told_of.Given as goal

abbrev pub ghosts-told_over-J-Whose : goal.ghosts-told_over-J-Whose
ghosts-told_over-J-Whose g a = record { book = a.opened.vault.book; places = a.opened.places }

abbrev pub ghosts-told_over-J-Opening : goal.ghosts-told_over-J-Opening
ghosts-told_over-J-Opening g a = record { ground = ground_of a.opened.vault; tells = (g.D.Disk.view a.opened.vault.disk).tells }
