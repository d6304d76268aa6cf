-- What the entry at a place of a history is, by the entries before it.
use Rattle.std.specs.Prelude.{ℕ, Bool, false, List, Option, take, slice_get, option_map, option_and_then}
use Rattle.std.specs.Option.{option_map_or}
use Rattle.pass_entry.specs.declared.entry.Entry.{Entry}
use Rattle.pass_entry.specs.declared.objects.Node.{Node}
use Rattle.pass_plain.specs.Histories.{is_out, source_place}
use Rattle.pass_plain.specs.Sessions.{Session}
use Rattle.pass_plain.specs.Versions.{nodes_of, source_in, is_in, is_fresh, is_freeze}

-- the object of the entry at a place
abbrev pub object_at : List Entry → ℕ → Option ℕ
object_at history place = option_map (λ e. e.what) (slice_get history place)

-- the object of the entry at a place, with its version there
abbrev pub node_at : Session → List Entry → ℕ → Option Node
node_at session history place = slice_get (nodes_of session history) place

-- the place of the OUT that the IN at a place names
abbrev pub out_at : List Entry → ℕ → Option ℕ
out_at history place = option_and_then source_place (slice_get history place)

-- the node that the IN at a place takes from
abbrev pub source_at : Session → List Entry → ℕ → Option Node
source_at session history place = option_and_then (source_in (nodes_of session history)) (slice_get history place)

abbrev pub is_out_at : List Entry → ℕ → Bool
is_out_at history place = option_map_or is_out (slice_get history place) false

abbrev pub is_in_at : List Entry → ℕ → Bool
is_in_at history place = option_map_or is_in (slice_get history place) false

-- the entry at a place is a fresh IN
abbrev pub is_fresh_at : Session → List Entry → ℕ → Bool
is_fresh_at session history place =
    option_map_or (is_fresh session (take place history) (nodes_of session (take place history))) (slice_get history place) false

-- the entry at a place freezes its object
abbrev pub is_freeze_at : Session → List Entry → ℕ → Bool
is_freeze_at session history place =
    option_map_or (is_freeze session (take place history) (nodes_of session (take place history))) (slice_get history place) false
