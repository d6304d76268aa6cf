-- How many bytes a record has in the log: a tag byte and the fields, numbers at their full width, texts behind their lengths (this project's log format).
use Rattle.std.specs.Prelude.{ℕ, ◌+◌, length}
use Rattle.pass_entry.specs.declared.record.Record.{Record}
use Rattle.pass_entry.specs.declared.record.Record.TheVariants as record_of

abbrev pub record_length : Record → ℕ
record_length (record_of.Object pnode kind) = 10
record_length (record_of.Name pnode name) = 10 + length name
record_length (record_of.Attr node attr value) = 20 + length attr + length value
record_length (record_of.Input target source) = 33
record_length (record_of.Version node) = 17
record_length (record_of.Size pnode size) = 17
record_length (record_of.Digest pnode block md5) = 29
record_length (record_of.Ceiling pnode) = 9
