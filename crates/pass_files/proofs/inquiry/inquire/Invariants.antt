use Rattle.pass_files.proofs.inquiry.inquire.Given as goal

-- a ledger of its own
abbrev pub ghosts-nodes_of : goal.ghosts-nodes_of
ghosts-nodes_of a = record { name = a.blank.name; parts = a.blank.parts }
