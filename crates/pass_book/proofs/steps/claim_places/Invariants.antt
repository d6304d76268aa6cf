use Rattle.pass_book.proofs.steps.claim_places.Given as goal

abbrev pub ghosts-claim : goal.ghosts-claim
ghosts-claim a = record { count = a.count }
