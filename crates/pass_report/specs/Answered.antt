-- The lines of the calls that a history answers, by the places of their entries.
use Rattle.std.specs.Prelude.{ℕ, zero, suc, Bool, false, List, [], ◌++◌, Option, Some, None, slice_get, if◌then◌else◌}
use Rattle.std.specs.Option.{option_map_or}
use Rattle.pass_entry.specs.declared.entry.Entry.{Entry}
use Rattle.pass_entry.specs.declared.objects.Node.{Node}
use Rattle.pass_report.specs.Reports.{call_line}

abbrev pub line_if : List Entry → List Node → Option Entry → Option Node → List ℕ
line_if history nodes (Some e) (Some node) = call_line history nodes e node
line_if history nodes (Some e) None = []
line_if history nodes None any = []

-- the line of the entry at a place
abbrev pub known_line : List Entry → List Node → ℕ → List ℕ
known_line history nodes place = line_if history nodes (slice_get history place) (slice_get nodes place)

abbrev pub is_marked : List Bool → ℕ → Bool
is_marked answered place = option_map_or (λ mark. mark) (slice_get answered place) false

-- the line of the entry at a place, if it is marked as the end of a call
abbrev pub line_at : List Entry → List Node → List Bool → ℕ → List ℕ
line_at history nodes answered place = if is_marked answered place then known_line history nodes place else []

-- those of the entries before a place
abbrev pub lines_to : List Entry → List Node → List Bool → ℕ → List ℕ
lines_to history nodes answered zero = []
lines_to history nodes answered (suc place) = lines_to history nodes answered place ++ line_at history nodes answered place
