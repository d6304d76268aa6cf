-- What the records tell of a node: its kind, the name of a file, what a process ran, the attributes of an app object. This project's
-- own rule.
use Rattle.std.specs.Prelude.{ℕ, ◌==◌, true, false, List, [], ◌∷◌, Option, Some, None, fold, bytes_eq, codes, option_map, if◌then◌else◌}
use Rattle.pass_entry.specs.declared.objects.Node.{Node}
use Rattle.pass_entry.specs.declared.objects.Kind.{Kind}
use Rattle.pass_entry.specs.declared.objects.Kind.TheVariants as kind
use Rattle.pass_entry.specs.declared.record.Record.{Record}
use Rattle.pass_entry.specs.declared.record.Record.TheVariants as log
use Rattle.pass_plain.specs.Versions.{same_node}
use Rattle.pass_plain.specs.WellLogged.{kind_of}
use Rattle.pass_view.specs.Facts.{tags_in}
use Rattle.pass_files.specs.Data.{version_before}
use Rattle.pass_files.specs.declared.facts.Naming.{Naming}
use Rattle.pass_files.specs.declared.facts.Ran.{Ran}
use Rattle.pass_files.specs.declared.told.Title.{Title}
use Rattle.pass_files.specs.declared.told.Title.TheVariants.{Nothing, Named, Ran as Running, Tagged}
use Rattle.pass_files.specs.declared.told.Told.{Told}

abbrev pub unnamed : Naming → Naming
unnamed naming = record { name = naming.name; lost = true }

-- a record gives a name, or takes it away by the empty one
abbrev pub named : Option Naming → List ℕ → Option Naming
named last [] = option_map unnamed last
named last (b ∷ name) = Some (record { name = b ∷ name; lost = false })

abbrev pub naming_look : ℕ → Option Naming → Record → Option Naming
naming_look object last (log.Name pnode name) = if pnode == object then named last name else last
naming_look object last _ = last

-- the last name that the object was given, and whether it lost it
abbrev pub naming_of : List Record → ℕ → Option Naming
naming_of list object = fold (naming_look object) None list

abbrev pub with_arguments : List ℕ → Ran → Ran
with_arguments value ran = record { program = ran.program; arguments = Some value }

-- an exec tells its program, and then the arguments
abbrev pub ran_with : Option Ran → List ℕ → List ℕ → Option Ran
ran_with ran attr value =
    if bytes_eq attr (codes "EXE") then Some (record { program = value; arguments = None })
    else if bytes_eq attr (codes "ARGV") then option_map (with_arguments value) ran
    else ran

-- a version begins with what the version before ran, and an exec gives it a program
abbrev pub ran_look : (Node → Option Ran) → Record → Node → Option Ran
ran_look ran (log.Version next) node = if same_node next node then ran (version_before next) else ran node
ran_look ran (log.Attr target attr value) node = if same_node target node then ran_with (ran node) attr value else ran node
ran_look ran _ node = ran node

-- what ran at a version of a process, by its last exec up to there
abbrev pub ran_of : List Record → Node → Option Ran
ran_of list = fold ran_look (λ _. None) list

abbrev pub named_title : Option Naming → Title
named_title None = Nothing
named_title (Some naming) = Named naming

abbrev pub running_title : Option Ran → Title
running_title None = Nothing
running_title (Some ran) = Running ran

abbrev pub title_by : Option Kind → Option Naming → Option Ran → List (List ℕ × List ℕ) → Title
title_by (Some kind.Process) naming ran tags = running_title ran
title_by (Some kind.File) naming ran tags = named_title naming
title_by (Some kind.Pipe) naming ran tags = named_title naming
title_by (Some kind.App) naming ran tags = Tagged tags
title_by None naming ran tags = Nothing

abbrev pub told_of : List Record → Node → Told
told_of list node = record {
  node = node;
  kind = kind_of list node.pnode;
  title = title_by (kind_of list node.pnode) (naming_of list node.pnode) (ran_of list node) (tags_in list node);
}
