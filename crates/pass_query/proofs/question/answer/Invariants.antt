use Rattle.pass_query.proofs.question.answer.Given as goal

-- a ledger of its own
abbrev pub ghosts-answer_nodes : goal.ghosts-answer_nodes
ghosts-answer_nodes a = record { name = a.blank.name; parts = a.blank.parts }
