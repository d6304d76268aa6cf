-- The record at the front of bytes and the bytes after it, or the first fault: the tag, then the fields in order (this project's own format).
use Rattle.std.specs.Prelude.{ℕ, ◌==◌, List, [], ◌∷◌, Result, Ok, Err, if◌then◌else◌}
use Rattle.pass_entry.specs.declared.record.Record.{Record}
use Rattle.pass_entry.specs.declared.record.Record.TheVariants as record_of
use Rattle.pass_record.specs.declared.fault.RecordFault.{RecordFault}
use Rattle.pass_record.specs.declared.fault.RecordFault.TheVariants as fault
use Rattle.pass_record.specs.Fields.{◌>>=◌, object_number_at, node_at, kind_at, name_at, attr_at, value_at, size_at, block_at, md5_at}

-- behind tag 1: an object was made, its number and kind
unfoldable pub object_at : List ℕ → Result (Record × List ℕ) RecordFault
object_at bytes = do
  pnode ← object_number_at bytes
  kind ← kind_at pnode.1
  Ok (record_of.Object pnode.0 kind.0, kind.1)

-- behind tag 2: a file's number and name
unfoldable pub named_at : List ℕ → Result (Record × List ℕ) RecordFault
named_at bytes = do
  pnode ← object_number_at bytes
  name ← name_at pnode.1
  Ok (record_of.Name pnode.0 name.0, name.1)

-- behind tag 3: a node, an attribute and its value
unfoldable pub attribute_at : List ℕ → Result (Record × List ℕ) RecordFault
attribute_at bytes = do
  node ← node_at bytes
  attr ← attr_at node.1
  value ← value_at attr.1
  Ok (record_of.Attr node.0 attr.0 value.0, value.1)

-- behind tag 4: the target node, then the source node
unfoldable pub input_at : List ℕ → Result (Record × List ℕ) RecordFault
input_at bytes = do
  target ← node_at bytes
  source ← node_at target.1
  Ok (record_of.Input target.0 source.0, source.1)

-- behind tag 5: a node whose version begins
unfoldable pub version_at : List ℕ → Result (Record × List ℕ) RecordFault
version_at bytes = do
  node ← node_at bytes
  Ok (record_of.Version node.0, node.1)

-- behind tag 6: a file's number and size
unfoldable pub file_size_at : List ℕ → Result (Record × List ℕ) RecordFault
file_size_at bytes = do
  pnode ← object_number_at bytes
  size ← size_at pnode.1
  Ok (record_of.Size pnode.0 size.0, size.1)

-- behind tag 7: a file's number, a block and the block's MD5
unfoldable pub digest_at : List ℕ → Result (Record × List ℕ) RecordFault
digest_at bytes = do
  pnode ← object_number_at bytes
  block ← block_at pnode.1
  md5 ← md5_at block.1
  Ok (record_of.Digest pnode.0 block.0 md5.0, md5.1)

-- behind tag 8: the greatest number that a session may give
unfoldable pub ceiling_at : List ℕ → Result (Record × List ℕ) RecordFault
ceiling_at bytes = do
  pnode ← object_number_at bytes
  Ok (record_of.Ceiling pnode.0, pnode.1)

-- the fields behind a tag
abbrev pub fields_at : ℕ → List ℕ → Result (Record × List ℕ) RecordFault
fields_at tag bytes =
    if tag == 1 then object_at bytes
    else if tag == 2 then named_at bytes
    else if tag == 3 then attribute_at bytes
    else if tag == 4 then input_at bytes
    else if tag == 5 then version_at bytes
    else if tag == 6 then file_size_at bytes
    else if tag == 7 then digest_at bytes
    else if tag == 8 then ceiling_at bytes
    else Err fault.Tag

-- the tag, then the fields
unfoldable pub record_at : List ℕ → Result (Record × List ℕ) RecordFault
record_at [] = Err fault.Short
record_at (tag ∷ bytes) = fields_at tag bytes
