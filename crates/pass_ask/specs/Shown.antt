-- What the words of the program that shows graphs ask for. This project's own rule.
use Rattle.std.specs.Prelude.{◌&&◌, Bool, List, [], ◌∷◌, Option, Some, None, option_and_then, option_map, codes, if◌then◌else◌}
use Rattle.pass_files.specs.declared.spelled.Spelled.{Spelled}
use Rattle.pass_trace.specs.Words.{is_text}
use Rattle.pass_view.specs.declared.csvs.Table.{Table}
use Rattle.pass_view.specs.declared.csvs.Table.TheVariants.{Nodes, Edges}
use Rattle.pass_view.specs.declared.texts.Form.{Form}
use Rattle.pass_view.specs.declared.texts.Form.TheVariants.{Dot, Plain, Prov}
use Rattle.pass_ask.specs.Telling.{spelled_in}
use Rattle.pass_ask.specs.Words.{Text}
use Rattle.pass_ask.specs.declared.words.GraphQuestion.TheVariants.{View, Csv}
use Rattle.pass_ask.specs.declared.words.Question.{Question}
use Rattle.pass_ask.specs.declared.words.Question.TheVariants.{Graph}

abbrev pub form_in : Text → Option Form
form_in word = if is_text word (codes "dot") then Some Dot else if is_text word (codes "prov") then Some Prov else None

-- the form that `--plain` behind a word makes of it
abbrev pub plain_in : Text → Option Form
plain_in word = if is_text word (codes "dot") then Some Plain else None

abbrev pub is_flag : Text → Bool
is_flag word = is_text word (codes "--plain")

abbrev pub whole_of : Option Form → Option Question
whole_of form = option_map (λ f. Graph (View f None)) form

abbrev pub part_of : Option Form → Option Spelled → Option Question
part_of form node = option_and_then (λ f. option_map (λ n. Graph (View f (Some n))) node) form

abbrev pub is_csv : Text → Bool
is_csv word = is_text word (codes "csv")

abbrev pub table_in : Text → Option Table
table_in word = if is_text word (codes "nodes") then Some Nodes else if is_text word (codes "edges") then Some Edges else None

abbrev pub is_store_flag : Text → Bool
is_store_flag word = is_text word (codes "--store")

-- a table, for a store of this name
abbrev pub table_of : Option Table → Text → Option Question
table_of table store = option_map (λ t. Graph (Csv t store)) table

abbrev pub picture_in : Text → Text → Option Question
picture_in form word = if is_flag word then whole_of (plain_in form) else part_of (form_in form) (spelled_in word)

-- `dot` or `prov`, and a node behind it, which a name may give, where not the whole graph is to be shown; behind `dot` also `--plain`, last.
-- `csv` and one of the two tables; the store has the name behind `--store`, and else the word that gives its folder.
abbrev pub shown_in : Text → List Text → Option Question
shown_in folder (form ∷ []) = whole_of (form_in form)
shown_in folder (form ∷ word ∷ []) = if is_csv form then table_of (table_in word) folder else picture_in form word
shown_in folder (form ∷ node ∷ word ∷ []) = if is_flag word then part_of (plain_in form) (spelled_in node) else None
shown_in folder (form ∷ table ∷ flag ∷ name ∷ []) = if is_csv form && is_store_flag flag then table_of (table_in table) name else None
shown_in _ _ = None
