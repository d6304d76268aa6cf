-- How nodes are written with what is told of them. This project's own rule.
use Rattle.std.specs.Prelude.{ℕ, List, [], ◌∷◌, ◌++◌, map, Option, Some, None, codes, if◌then◌else◌}
use Rattle.std.specs.List.{flat_map}
use Rattle.json.specs.Json.{Json, array, string}
use Rattle.json.specs.Print.{print}
use Rattle.json.specs.Tree.{json_tokens}
use Rattle.pass_entry.specs.Words.{kind_word, node_text}
use Rattle.pass_entry.specs.declared.objects.Node.{Node}
use Rattle.pass_entry.specs.declared.objects.Kind.{Kind}
use Rattle.pass_entry.specs.declared.record.Record.{Record}
use Rattle.pass_query.specs.Questions.{answer_text}
use Rattle.pass_query.specs.declared.question.Form.{Form}
use Rattle.pass_query.specs.declared.question.Form.TheVariants.{Lines, Json as AsJson}
use Rattle.pass_view.specs.Provs.{Member, items_of, object_of, text_at}
use Rattle.pass_files.specs.Told.{told_of}
use Rattle.pass_files.specs.declared.facts.Naming.{Naming}
use Rattle.pass_files.specs.declared.told.Title.{Title}
use Rattle.pass_files.specs.declared.told.Title.TheVariants.{Nothing, Named, Ran as Running, Tagged}
use Rattle.pass_files.specs.declared.told.Told.{Told}

-- Lines

abbrev pub spaced : List ℕ → List ℕ
spaced text = codes " " ++ text

abbrev pub kind_text : Option Kind → List ℕ
kind_text None = []
kind_text (Some kind) = spaced (kind_word kind)

-- `was` tells that the file lost the name
abbrev pub naming_text : Naming → List ℕ
naming_text naming = if naming.lost then spaced (codes "was") ++ spaced naming.name else spaced naming.name

abbrev pub arguments_text : Option (List ℕ) → List ℕ
arguments_text None = []
arguments_text (Some arguments) = spaced arguments

abbrev pub tag_text : List ℕ × List ℕ → List ℕ
tag_text tag = spaced tag.0 ++ spaced tag.1

abbrev pub title_text : Title → List ℕ
title_text Nothing = []
title_text (Named naming) = naming_text naming
title_text (Running ran) = spaced ran.program ++ arguments_text ran.arguments
title_text (Tagged tags) = flat_map tag_text tags

-- the node, its kind, and its name, what it ran, or its attributes with their values, with a space between two
abbrev pub line_text : Told → List ℕ
line_text told = node_text told.node ++ (kind_text told.kind ++ (title_text told.title ++ 10 ∷ []))

-- JSON

abbrev pub kind_members : Option Kind → List Member
kind_members None = []
kind_members (Some kind) = text_at (codes "kind") (kind_word kind) ∷ []

abbrev pub naming_member : Naming → Member
naming_member naming = text_at (if naming.lost then codes "was" else codes "name") naming.name

abbrev pub arguments_members : Option (List ℕ) → List Member
arguments_members None = []
arguments_members (Some arguments) = text_at (codes "arguments") arguments ∷ []

-- an attribute and its value, as a list of two
abbrev pub tag_json : List ℕ × List ℕ → Json
tag_json tag = array (items_of string (tag.0 ∷ tag.1 ∷ []))

abbrev pub tags_member : List (List ℕ × List ℕ) → Member
tags_member tags = (codes "attributes", array (items_of tag_json tags))

abbrev pub title_members : Title → List Member
title_members Nothing = []
title_members (Named naming) = naming_member naming ∷ []
title_members (Running ran) = text_at (codes "program") ran.program ∷ arguments_members ran.arguments
title_members (Tagged tags) = tags_member tags ∷ []

abbrev pub members_in : Told → List Member
members_in told = text_at (codes "node") (node_text told.node) ∷ (kind_members told.kind ++ title_members told.title)

abbrev pub told_object : Told → Json
told_object told = object_of (members_in told)

-- one object a node, on a line
abbrev pub json_text : List Told → List ℕ
json_text ts = print (json_tokens (array (items_of told_object ts))) ++ 10 ∷ []

-- Answers

abbrev pub told_all : List Record → List Node → List Told
told_all list nodes = map (told_of list) nodes

abbrev pub inquiry_text : List Record → Form → Option (List Node) → List ℕ
inquiry_text list Lines (Some nodes) = flat_map line_text (told_all list nodes)
inquiry_text list AsJson (Some nodes) = json_text (told_all list nodes)
inquiry_text list form None = answer_text form None
