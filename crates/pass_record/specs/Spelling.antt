-- The one spelling of a record in the log: a tag byte and the fields in order, numbers big-endian (this project's own format).
use Rattle.std.specs.Prelude.{ℕ, ◌≡◌, List, [], ◌∷◌, ◌++◌, length, drop, slice_index, ◌<◌}
use Rattle.std.specs.Int.{Width, w8, w16, w32, w64, to_be_bytes}
use Rattle.pass_entry.specs.declared.objects.Kind.{Kind}
use Rattle.pass_entry.specs.declared.objects.Kind.TheVariants as kind_of
use Rattle.pass_entry.specs.declared.objects.Node.{Node}
use Rattle.pass_entry.specs.declared.record.Record.{Record}
use Rattle.pass_entry.specs.declared.record.Record.TheVariants as record_of
use Rattle.pass_entry.specs.Ranges.{IsInRange}
use Rattle.pass_entry.specs.Lengths.{record_length}

-- the byte of a kind of object
abbrev pub kind_byte : Kind → ℕ
kind_byte kind_of.Process = 1
kind_byte kind_of.File = 2
kind_byte kind_of.Pipe = 3
kind_byte kind_of.App = 4

-- an object's number, then its version
abbrev pub node_bytes : Node → List ℕ
node_bytes node = to_be_bytes w64 node.pnode ++ to_be_bytes w64 node.version

-- a text behind its length
abbrev pub text_bytes : Width → List ℕ → List ℕ
text_bytes w text = to_be_bytes w (length text) ++ text

-- a name behind its length of one byte
abbrev pub name_bytes : List ℕ → List ℕ
name_bytes name = text_bytes w8 name

-- a line of text behind its length of two bytes
abbrev pub line_bytes : List ℕ → List ℕ
line_bytes line = text_bytes w16 line

-- the fields in order
abbrev pub field_bytes : Record → List ℕ
field_bytes (record_of.Object pnode kind) = to_be_bytes w64 pnode ++ kind_byte kind ∷ []
field_bytes (record_of.Name pnode name) = to_be_bytes w64 pnode ++ name_bytes name
field_bytes (record_of.Attr node attr value) = node_bytes node ++ name_bytes attr ++ line_bytes value
field_bytes (record_of.Input target source) = node_bytes target ++ node_bytes source
field_bytes (record_of.Version node) = node_bytes node
field_bytes (record_of.Size pnode size) = to_be_bytes w64 pnode ++ to_be_bytes w64 size
field_bytes (record_of.Digest pnode block md5) = to_be_bytes w64 pnode ++ to_be_bytes w32 block ++ md5
field_bytes (record_of.Ceiling pnode) = to_be_bytes w64 pnode

-- the byte that says which record it is
abbrev pub tag_of : Record → ℕ
tag_of (record_of.Object pnode kind) = 1
tag_of (record_of.Name pnode name) = 2
tag_of (record_of.Attr node attr value) = 3
tag_of (record_of.Input target source) = 4
tag_of (record_of.Version node) = 5
tag_of (record_of.Size pnode size) = 6
tag_of (record_of.Digest pnode block md5) = 7
tag_of (record_of.Ceiling pnode) = 8

-- the bytes of a record
unfoldable pub spelling : Record → List ℕ
spelling one = tag_of one ∷ field_bytes one

-- each is a byte
abbrev pub AreBytes : List ℕ → Type 0
AreBytes bytes = (i : ℕ) → slice_index bytes i < 256

-- a record within its ranges whose spelling begins the bytes
pub record StandsAtFront (one : Record) (bytes : List ℕ) : Type 0 where
  pub in_range : IsInRange one
  pub spelled : bytes ≡ spelling one ++ drop (record_length one) bytes
