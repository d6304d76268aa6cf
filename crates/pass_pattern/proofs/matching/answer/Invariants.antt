use Rattle.pass_pattern.proofs.matching.answer.Given as goal

-- a ledger of its own
abbrev pub ghosts-found : goal.ghosts-found
ghosts-found a = record { name = a.blank.name; parts = a.blank.parts }
