use Rattle.pass_view.proofs.selecting.select.Given as goal

-- a ledger of its own
abbrev pub ghosts-shown_nodes : goal.ghosts-shown_nodes
ghosts-shown_nodes a = record { name = a.blank.name; parts = a.blank.parts }
