-- The versions of a session's files, each with its content (this project's own rule).
use Rattle.std.specs.Prelude.{ℕ, ◌==◌, Bool, ◌&&◌, List, [], ◌∷◌, ◌++◌, map, flat_map, if◌then◌else◌}
use Rattle.std.specs.List.{list_any}
use Rattle.std.specs.Ordering.{nat_cmp}
use Rattle.pass_entry.specs.declared.entry.Entry.{Entry}
use Rattle.pass_entry.specs.declared.objects.Kind.{Kind}
use Rattle.pass_entry.specs.declared.objects.Kind.TheVariants as kind
use Rattle.pass_plain.specs.declared.start.Start.{Start}
use Rattle.pass_plain.specs.declared.start.StartFile.{StartFile}
use Rattle.pass_plain.specs.Files.{file_after}
use Rattle.pass_plain.specs.Histories.{replay}
use Rattle.pass_plain.specs.Registries.{Registry, registry_after, same_kind}
use Rattle.pass_plain.specs.Sessions.{Session}
use Rattle.pass_plain.specs.Versions.{nodes_of, is_freeze, version_after}
use Rattle.pass_report.specs.Reports.{ascending}
use Rattle.pass_leaf.specs.Keeping.{FileVersion}

-- the version of a file after a history, with its content
abbrev pub version_of : Session → List Entry → ℕ → FileVersion
version_of session history file = record { node = record { pnode = file; version = version_after session history file }; bytes = file_after session history file }

-- the object is a file of that number
abbrev pub is_that_file : ℕ → ℕ × Kind → Bool
is_that_file pnode o = o.0 == pnode && same_kind o.1 kind.File

abbrev pub is_file_in : Registry → ℕ → Bool
is_file_in r pnode = list_any (is_that_file pnode) r.objects

-- each file of the opening, at the version with which it was opened
abbrev pub opened_file : StartFile → FileVersion
opened_file file = record { node = file.node; bytes = file.bytes.items }

abbrev pub opened_versions : Start → List FileVersion
opened_versions start = map opened_file start.files.items

-- the version of a file that an entry freezes, with the content that the file had till then
abbrev pub ended_by : Session → List Entry → Entry → List FileVersion
ended_by session past e = if is_file_in (registry_after session past) e.what && is_freeze session past (nodes_of session past) e then version_of session past e.what ∷ [] else []

abbrev pub ended_versions : Session → List Entry → List FileVersion
ended_versions session history = replay (λ past list e. list ++ ended_by session past e) [] [] history

-- the numbers of the files among objects, each once, ascending
abbrev pub file_number : ℕ × Kind → List ℕ
file_number o = if same_kind o.1 kind.File then o.0 ∷ [] else []

abbrev pub file_numbers : List (ℕ × Kind) → List ℕ
file_numbers objects = ascending nat_cmp (flat_map file_number objects)

-- the versions that the files have at the end
abbrev pub current_versions : Session → List Entry → List FileVersion
current_versions session history = map (version_of session history) (file_numbers (registry_after session history).objects)

-- The versions of a session: those with which it opened, then those that its entries ended, in order, then those that are current at
-- the end, in the order of the files' numbers.
abbrev pub versions_of : Session → List Entry → List FileVersion
versions_of session history = opened_versions session.start ++ (ended_versions session history ++ current_versions session history)
