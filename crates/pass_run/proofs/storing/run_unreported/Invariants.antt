use Rattle.pass_safe.specs.Grounds.{ground_of}
use Rattle.pass_run.proofs.storing.run_unreported.Given as goal

abbrev pub ghosts-run_opened-J-Whose : goal.ghosts-run_opened-J-Whose
ghosts-run_opened-J-Whose g a = record { book = a.opened.vault.book; places = a.opened.places }

abbrev pub ghosts-run_opened-J-Opening : goal.ghosts-run_opened-J-Opening
ghosts-run_opened-J-Opening g a = record { ground = ground_of a.opened.vault; tells = (g.D.Disk.view a.opened.vault.disk).tells }
