-- Which words name which command. This project's own rule.
use Rattle.std.specs.Prelude.{ℕ, ◌-◌, Bool, true, false, List, [], ◌∷◌, Option, Some, None, codes, get_or, length, option_map, take, ◌==◌, if◌then◌else◌}
use Rattle.pass_entry.specs.Texts.{is_name}
use Rattle.pass_entry.specs.declared.objects.Node.{Node}
use Rattle.pass_files.specs.declared.spelled.Spelled.TheVariants.{Called}
use Rattle.pass_trace.specs.Words.{is_text}
use Rattle.pass_ask.specs.Numbers.{number_in, node_in, last_number}
use Rattle.pass_ask.specs.Telling.{spelled_in}
use Rattle.pass_old.specs.declared.words.OldCommand.{OldCommand}
use Rattle.pass_old.specs.declared.words.OldCommand.TheVariants.{Run, Ask, Consult, Tar}
use Rattle.pass_old.specs.declared.words.OldQuestion.TheVariants.{Cat, Versions, Diff}
use Rattle.pass_old.specs.declared.words.LogQuestion.TheVariants.{Named, Check}

-- two nodes of one file
abbrev pub diff_of : Option Node → Option Node → Option OldCommand
diff_of (Some from) (Some to) = if from.pnode == to.pnode then Some (Ask (Diff from to)) else None
diff_of _ _ = None

-- the word without the `@` (64) that may end a name
abbrev pub called : List ℕ → List ℕ
called word = if get_or word (length word - 1) 0 == 64 then take (length word - 1) word else word

abbrev pub named_of : List ℕ → Option OldCommand
named_of name = if is_name name then Some (Consult (Named name)) else None

-- a word that reads as a number is a file's; any other is a name, as is one with an `@` behind it
abbrev pub file_of : Option ℕ → List ℕ → Option OldCommand
file_of (Some file) word = Some (Ask (Versions file))
file_of None word = named_of (called word)

-- run, check, run --workers N, cat P.V, versions P, versions NAME, tar NODE, diff P.V P.W
abbrev pub command_of : List (List ℕ) → Option OldCommand
command_of (name ∷ []) =
    if is_text name (codes "run") then Some (Run 4)
    else if is_text name (codes "check") then Some (Consult Check)
    else None
command_of (name ∷ word ∷ []) =
    if is_text name (codes "cat") then option_map (λ node. Ask (Cat node)) (node_in word)
    else if is_text name (codes "versions") then file_of (number_in 1 last_number word) word
    else if is_text name (codes "tar") then option_map Tar (spelled_in word)
    else None
command_of (name ∷ first ∷ second ∷ []) =
    if is_text name (codes "diff") then diff_of (node_in first) (node_in second)
    else if is_text name (codes "run") then (if is_text first (codes "--workers") then option_map Run (number_in 1 64 second) else None)
    else None
command_of _ = None

-- the command asks by a name
abbrev pub IsNamed : Option OldCommand → Type 0
IsNamed (Some (Consult (Named name))) = Unit {0}
IsNamed (Some (Tar (Called name version))) = Unit {0}
IsNamed _ = ⊥

abbrev pub is_run : Option OldCommand → Bool
is_run (Some (Run workers)) = true
is_run _ = false

-- only a run writes
abbrev pub writes : List (List ℕ) → Bool
writes words = is_run (command_of words)
