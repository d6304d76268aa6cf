-- The texts of answers.
use Rattle.std.specs.Prelude.{ℕ, List, [], ◌∷◌, ◌++◌, codes}
use Rattle.std.specs.List.{flat_map}
use Rattle.pass_entry.specs.declared.objects.Node.{Node}
pub use Rattle.pass_entry.specs.Words.{node_text}

-- each node on a line
abbrev pub text_of : List Node → List ℕ
text_of nodes = flat_map (λ n. node_text n ++ 10 ∷ []) nodes

-- a string of JSON
abbrev pub quoted_node : Node → List ℕ
quoted_node node = codes "\"" ++ node_text node ++ codes "\""

-- with a comma between each two
abbrev pub joined : List Node → List ℕ
joined [] = []
joined (n ∷ nodes) = quoted_node n ++ flat_map (λ m. codes "," ++ quoted_node m) nodes

-- the nodes as a list of strings, on a line
abbrev pub json_of : List Node → List ℕ
json_of nodes = codes "[" ++ joined nodes ++ codes "]" ++ 10 ∷ []
