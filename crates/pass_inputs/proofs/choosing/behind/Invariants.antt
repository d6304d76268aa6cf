use Rattle.pass_inputs.proofs.choosing.behind.Given as goal

-- a ledger of its own
abbrev pub ghosts-behind_by : goal.ghosts-behind_by
ghosts-behind_by a = record { name = a.blank.name; parts = a.blank.parts }
