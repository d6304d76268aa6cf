use Rattle.pass_ask.proofs.graph.graph_answer.Given as goal

-- a ledger of its own
abbrev pub ghosts-recipe_answer : goal.ghosts-recipe_answer
ghosts-recipe_answer a = record { name = a.blank.name; parts = a.blank.parts }
