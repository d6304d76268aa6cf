-- What lies under a session's locks as it begins.
use Rattle.std.specs.Prelude.{ℕ, suc, ◌+◌, List, [], ◌∷◌}
use Rattle.pass_entry.specs.declared.entry.Entry.{Entry}
use Rattle.pass_entry.specs.declared.objects.Node.{Node}
use Rattle.pass_plain.specs.declared.start.Start.{Start}
use Rattle.pass_plain.specs.declared.start.StartFile.{StartFile}
use Rattle.pass_flow.specs.Flows.{ObjectView}
use Rattle.pass_file.specs.Desks.{FileDeskView}
use Rattle.pass_proc.specs.Births.{start_entry}

-- the number of the first process, right above the ceiling
abbrev pub first_process : Start → ℕ
first_process start = start.ceiling + 1

-- a session's first entry
abbrev pub first_entries : Start → List Entry
first_entries start = start_entry (first_process start) ∷ []

-- a file of the opening with its number, of which nothing was seen
abbrev pub file_view : ℕ → StartFile → FileDeskView
file_view number file = record { what = file.node.pnode; number = number; seen = []; syncs = []; spare = 0; room = 0 }

-- the files with their numbers, from this one on
abbrev pub file_views : ℕ → List StartFile → List FileDeskView
file_views number [] = []
file_views number (file ∷ files) = file_view number file ∷ file_views (suc number) files

-- an app object of the opening, of which nothing was seen
abbrev pub app_view : Node → ObjectView
app_view app = record { what = app.pnode; seen = []; syncs = []; spare = 0 }
