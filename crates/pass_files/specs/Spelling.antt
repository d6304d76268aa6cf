-- Which node a question means by a name. This project's own rule.
use Rattle.std.specs.Prelude.{ℕ, List, Option, Some, None, fold, bytes_eq, unwrap_or, if◌then◌else◌}
use Rattle.std.specs.Option.{option_map_or}
use Rattle.pass_entry.specs.declared.objects.Node.{Node}
use Rattle.pass_entry.specs.declared.record.Record.{Record}
use Rattle.pass_entry.specs.declared.record.Record.TheVariants as log
use Rattle.pass_waldo.specs.Lookups.{current_in}
use Rattle.pass_files.specs.declared.spelled.Spelled.{Spelled}
use Rattle.pass_files.specs.declared.spelled.Spelled.TheVariants.{Numbered, Called}

abbrev pub given_look : List ℕ → Option ℕ → Record → Option ℕ
given_look name last (log.Name pnode other) = if bytes_eq name other then Some pnode else last
given_look name last _ = last

-- the file to which a record gave the name last; a file that has the name now is that one
abbrev pub file_given : List Record → List ℕ → Option ℕ
file_given list name = fold (given_look name) None list

-- what is meant where no file ever had the name: objects and versions are numbered from 1
abbrev pub no_node : Node
no_node = record { pnode = 0; version = 0 }

-- the version that is given, or else the current one
abbrev pub version_meant : List Record → ℕ → Option ℕ → ℕ
version_meant list file (Some version) = version
version_meant list file None = unwrap_or (current_in list file) 0

abbrev pub node_at : ℕ → ℕ → Node
node_at file version = record { pnode = file; version = version }

abbrev pub node_meant : List Record → Spelled → Node
node_meant list (Numbered node) = node
node_meant list (Called name version) = option_map_or (λ (file : ℕ). node_at file (version_meant list file version)) (file_given list name) no_node
