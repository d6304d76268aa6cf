-- Words that give a node by the name of a file, or ask for an answer with names. This project's own rule.
use Rattle.std.specs.Prelude.{ℕ, ◌+◌, ◌==◌, ◌&&◌, ◌||◌, Bool, true, false, not, List, [], ◌∷◌, Option, Some, None, codes, drop, option_and_then, option_map, take, if◌then◌else◌}
use Rattle.std.specs.Option.{option_map_or}
use Rattle.pass_entry.specs.Texts.{is_name}
use Rattle.pass_entry.specs.declared.objects.Node.{Node}
use Rattle.pass_trace.specs.Words.{is_text}
use Rattle.pass_files.specs.declared.inquiry.Choice.{Choice}
use Rattle.pass_files.specs.declared.inquiry.Inquiry.{Inquiry}
use Rattle.pass_files.specs.declared.inquiry.Inquiry.TheVariants.{Ancestors, Descendants, Path, Inputs, Outputs}
use Rattle.pass_files.specs.declared.spelled.Spelled.{Spelled}
use Rattle.pass_files.specs.declared.spelled.Spelled.TheVariants.{Numbered, Called}
use Rattle.pass_ask.specs.Numbers.{last_number, node_in, number_in}
use Rattle.pass_ask.specs.declared.telling.Flags.{Flags}

-- NODE

abbrev pub or_here : Bool → Option ℕ → Option ℕ
or_here here behind = option_map_or (λ k. Some (k + 1)) behind (if here then Some 0 else None)

-- the place of the last `@` (64)
abbrev pub last_at : List ℕ → Option ℕ
last_at [] = None
last_at (b ∷ bs) = or_here (b == 64) (last_at bs)

abbrev pub called : List ℕ → Option ℕ → Option Spelled
called name version = if is_name name then Some (Called name version) else None

abbrev pub called_with : List ℕ → List ℕ → Option ℕ → Option Spelled
called_with word name (Some version) = called name (Some version)
called_with word name None = called word None

-- NAME@V; NAME@, which ends any name; and else the whole word is the name
abbrev pub called_by : List ℕ → List ℕ → List ℕ → Option Spelled
called_by word name [] = called name None
called_by word name (b ∷ behind) = called_with word name (number_in 1 last_number (b ∷ behind))

abbrev pub called_at : List ℕ → Option ℕ → Option Spelled
called_at word None = called word None
called_at word (Some place) = called_by word (take place word) (drop (place + 1) word)

abbrev pub spelled_as : List ℕ → Option Node → Option Spelled
spelled_as word (Some node) = Some (Numbered node)
spelled_as word None = called_at word (last_at word)

-- P.V, NAME, NAME@ or NAME@V. A word that reads as P.V is one; a name that reads otherwise is written with an `@` behind it.
unfoldable pub spelled_in : List ℕ → Option Spelled
spelled_in word = spelled_as word (node_in word)

-- a name gives the node
abbrev pub is_called : Option Spelled → Bool
is_called (Some (Called name version)) = true
is_called _ = false

-- Questions

abbrev pub choice_of : Flags → Choice
choice_of flags = record { flows = flags.flows; plain = flags.plain }

-- inputs NODE, outputs NODE, --data, --plain
abbrev pub inputs_in : Flags → List (List ℕ) → Option Inquiry
inputs_in flags (word ∷ []) = if flags.names then None else option_map (λ node. Inputs node (choice_of flags)) (spelled_in word)
inputs_in flags _ = None

abbrev pub outputs_in : Flags → List (List ℕ) → Option Inquiry
outputs_in flags (word ∷ []) = if flags.names then None else option_map (λ node. Outputs node (choice_of flags)) (spelled_in word)
outputs_in flags _ = None

abbrev pub lineage_on : List ℕ → List ℕ → Option Inquiry
lineage_on name word =
    if is_text name (codes "ancestors") then option_map Ancestors (spelled_in word)
    else if is_text name (codes "descendants") then option_map Descendants (spelled_in word)
    else None

abbrev pub told_path_of : Option Spelled → Option Spelled → Option Inquiry
told_path_of from to = option_and_then (λ a. option_map (Path a) to) from

unfoldable pub told_path_on : List ℕ → List ℕ → List ℕ → Option Inquiry
told_path_on name from to = if is_text name (codes "path") then told_path_of (spelled_in from) (spelled_in to) else None

-- ancestors NODE, descendants NODE, path NODE NODE, with --names
abbrev pub named_in : List ℕ → List (List ℕ) → Option Inquiry
named_in name (word ∷ []) = lineage_on name word
named_in name (from ∷ to ∷ []) = told_path_on name from to
named_in name _ = None

abbrev pub inquiry_in : Flags → List ℕ → List (List ℕ) → Option Inquiry
inquiry_in flags name words =
    if is_text name (codes "inputs") then inputs_in flags words
    else if is_text name (codes "outputs") then outputs_in flags words
    else if flags.names && not (flags.flows || flags.plain) then named_in name words
    else None

-- the words ask for names
abbrev pub tells : Flags → List ℕ → Bool
tells flags name = is_text name (codes "inputs") || (is_text name (codes "outputs") || (flags.names || (flags.flows || flags.plain)))
