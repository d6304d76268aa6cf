-- The rank of a version in a history. This project's own measure.
use Rattle.std.specs.Prelude.{ℕ, ◌+◌, Bool, false, ◌&&◌, ◌||◌, List, length}
use Rattle.std.specs.Option.{option_map_or}
use Rattle.std.specs.List.{position_or_len, range_with_len}
use Rattle.pass_entry.specs.declared.entry.Entry.{Entry}
use Rattle.pass_entry.specs.declared.objects.Node.{Node}
use Rattle.pass_plain.specs.Sessions.{Session}
use Rattle.pass_plain.specs.Versions.{same_node}
use Rattle.pass_graph.specs.Places.{node_at, is_out_at, is_freeze_at}

-- the entry at the place has this node
abbrev pub has_node : Session → List Entry → Node → ℕ → Bool
has_node session history node place = option_map_or (λ n. same_node n node) (node_at session history place) false

abbrev pub next_version : Node → Node
next_version node = record { pnode = node.pnode; version = node.version + 1 }

-- an OUT at the place marks the version, or a freeze there ends it
abbrev pub closes : Session → List Entry → Node → ℕ → Bool
closes session history node place =
    (is_out_at history place && has_node session history node place)
    || (is_freeze_at session history place && has_node session history (next_version node) place)

-- the first place at which an OUT marks the version or a freeze ends it, or the length where there is neither
abbrev pub rank_of : Session → List Entry → Node → ℕ
rank_of session history node = position_or_len (closes session history node) (range_with_len 0 (length history))
