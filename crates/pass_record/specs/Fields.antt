-- A field at the front of bytes: its value and the bytes after it, or its fault (this project's own format).
-- One with fewer bytes left than it has is Short, a whole one with a value outside its range is Value.
use Rattle.std.specs.Prelude.{ℕ, ◌==◌, Bool, true, ◌&&◌, List, length, take, drop, nat_le, nat_lt, Result, Ok, Err, if◌then◌else◌}
use Rattle.std.specs.List.{list_all}
use Rattle.std.specs.Int.{Width, w8, w16, w32, w64, byte_len, from_be_bytes}
use Rattle.pass_entry.specs.declared.objects.Kind.{Kind}
use Rattle.pass_entry.specs.declared.objects.Kind.TheVariants as kind_of
use Rattle.pass_entry.specs.declared.objects.Node.{Node}
use Rattle.pass_entry.specs.Limits.{block_count, file_limit, line_limit}
use Rattle.pass_entry.specs.Ranges.{is_number}
use Rattle.pass_entry.specs.Texts.{is_line_byte, is_name_byte}
use Rattle.pass_record.specs.declared.fault.RecordFault.{RecordFault}
use Rattle.pass_record.specs.declared.fault.RecordFault.TheVariants as fault

-- a field, and what stands after it
infixl 10 ◌>>=◌
abbrev pub ◌>>=◌ : {A B : Type 0} → Result A RecordFault → (A → Result B RecordFault) → Result B RecordFault
(Ok x) >>= f = f x
(Err e) >>= f = Err e

-- a number of the width, within the range
abbrev pub number_at : Width → (ℕ → Bool) → List ℕ → Result (ℕ × List ℕ) RecordFault
number_at w is_within bytes =
    if nat_lt (length bytes) (byte_len w) then Err fault.Short
    else if is_within (from_be_bytes w (take (byte_len w) bytes)) then Ok (from_be_bytes w (take (byte_len w) bytes), drop (byte_len w) bytes)
    else Err fault.Value

-- the next so many bytes, each within the range
abbrev pub bytes_at : ℕ → (ℕ → Bool) → List ℕ → Result (List ℕ × List ℕ) RecordFault
bytes_at count is_within bytes =
    if nat_lt (length bytes) count then Err fault.Short
    else if list_all is_within (take count bytes) then Ok (take count bytes, drop count bytes)
    else Err fault.Value

-- a length of the width, within the range, then as many bytes
abbrev pub text_at : Width → (ℕ → Bool) → (ℕ → Bool) → List ℕ → Result (List ℕ × List ℕ) RecordFault
text_at w is_length is_byte bytes = do
  len ← number_at w is_length bytes
  bytes_at len.0 is_byte len.1

-- any value
abbrev pub is_any : ℕ → Bool
is_any n = true

-- an object's number, or a version
abbrev pub object_number_at : List ℕ → Result (ℕ × List ℕ) RecordFault
object_number_at bytes = number_at w64 is_number bytes

-- an object's number, then its version
unfoldable pub node_at : List ℕ → Result (Node × List ℕ) RecordFault
node_at bytes = do
  pnode ← object_number_at bytes
  version ← object_number_at pnode.1
  Ok (record { pnode = pnode.0; version = version.0 }, version.1)

-- 1 to 4
abbrev pub is_kind_byte : ℕ → Bool
is_kind_byte b = nat_le 1 b && nat_le b 4

-- the kind of a byte from 1 to 4
abbrev pub kind_of_byte : ℕ → Kind
kind_of_byte b = if b == 1 then kind_of.Process else if b == 2 then kind_of.File else if b == 3 then kind_of.Pipe else kind_of.App

-- a byte that names a kind
unfoldable pub kind_at : List ℕ → Result (Kind × List ℕ) RecordFault
kind_at bytes = do
  b ← number_at w8 is_kind_byte bytes
  Ok (kind_of_byte b.0, b.1)

-- a length of one byte, then as many bytes of a name; an object that lost its name has none
unfoldable pub name_at : List ℕ → Result (List ℕ × List ℕ) RecordFault
name_at bytes = text_at w8 is_any is_name_byte bytes

-- a length of one byte from 1, then as many bytes of a name
unfoldable pub attr_at : List ℕ → Result (List ℕ × List ℕ) RecordFault
attr_at bytes = text_at w8 (nat_le 1) is_name_byte bytes

-- 1 to 1,024
abbrev pub is_value_length : ℕ → Bool
is_value_length n = nat_le 1 n && nat_le n line_limit

-- a length of two bytes from 1 to 1,024, then as many bytes of a line
unfoldable pub value_at : List ℕ → Result (List ℕ × List ℕ) RecordFault
value_at bytes = text_at w16 is_value_length is_line_byte bytes

-- a file has at most 4,194,304 bytes
abbrev pub size_at : List ℕ → Result (ℕ × List ℕ) RecordFault
size_at bytes = number_at w64 (λ n. nat_le n file_limit) bytes

-- a file has 1,024 blocks
abbrev pub block_at : List ℕ → Result (ℕ × List ℕ) RecordFault
block_at bytes = number_at w32 (λ n. nat_lt n block_count) bytes

-- an MD5 (RFC 1321) has 16 bytes
abbrev pub md5_at : List ℕ → Result (List ℕ × List ℕ) RecordFault
md5_at bytes = if nat_lt (length bytes) 16 then Err fault.Short else Ok (take 16 bytes, drop 16 bytes)
