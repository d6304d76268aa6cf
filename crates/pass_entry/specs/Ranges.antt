-- The ranges of the fields of a record, outside of which it has no bytes in the log (this project's log format).
use Rattle.std.specs.Prelude.{ℕ, ◌≡◌, Bool, true, ◌&&◌, ◌||◌, ◌==◌, List, length, nat_le, nat_lt}
use Rattle.pass_entry.specs.declared.objects.Node.{Node}
use Rattle.pass_entry.specs.declared.record.Record.{Record}
use Rattle.pass_entry.specs.declared.record.Record.TheVariants as record_of
use Rattle.pass_entry.specs.Limits.{block_count, file_limit, number_limit}
use Rattle.pass_entry.specs.Texts.{is_line, is_name}

-- the number of an object, or a version: from 1, below the limit
abbrev pub is_number : ℕ → Bool
is_number n = nat_le 1 n && nat_lt n number_limit

abbrev pub is_node : Node → Bool
is_node node = is_number node.pnode && is_number node.version

-- a name, or no bytes where an object has lost its name
abbrev pub is_name_or_none : List ℕ → Bool
is_name_or_none name = (length name == 0) || is_name name

-- a line of at least one byte
abbrev pub is_value : List ℕ → Bool
is_value value = nat_le 1 (length value) && is_line value

-- an MD5 has 16 bytes (RFC 1321)
abbrev pub is_in_range : Record → Bool
is_in_range (record_of.Object pnode kind) = is_number pnode
is_in_range (record_of.Name pnode name) = is_number pnode && is_name_or_none name
is_in_range (record_of.Attr node attr value) = is_node node && is_name attr && is_value value
is_in_range (record_of.Input target source) = is_node target && is_node source
is_in_range (record_of.Version node) = is_node node
is_in_range (record_of.Size pnode size) = is_number pnode && nat_le size file_limit
is_in_range (record_of.Digest pnode block md5) = is_number pnode && nat_lt block block_count && (length md5 == 16)
is_in_range (record_of.Ceiling pnode) = is_number pnode

-- each field of the record is within its range
abbrev pub IsInRange : Record → Type 0
IsInRange r = is_in_range r ≡ true
