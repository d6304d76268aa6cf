-- The text of a recipe.
use Rattle.std.specs.Prelude.{ℕ, List, Option, None, Some, [], ◌∷◌, ◌++◌, codes}
use Rattle.std.specs.List.{flat_map}
use Rattle.pass_entry.specs.Words.{node_text}
use Rattle.pass_recipe.specs.declared.entries.Made.{Made}

-- a program's name and its arguments, each behind a space; arguments without a program aren't written
abbrev pub program_text : Option (List ℕ) → Option (List ℕ) → List ℕ
program_text None args = []
program_text (Some exe) None = codes " " ++ exe
program_text (Some exe) (Some args) = codes " " ++ exe ++ codes " " ++ args

-- each entry on a line: the node, and what made it
abbrev pub recipe_text : List Made → List ℕ
recipe_text entries = flat_map (λ m. node_text m.node ++ program_text m.exe m.args ++ 10 ∷ []) entries
