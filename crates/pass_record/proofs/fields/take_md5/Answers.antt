-- The 16 bytes that were taken, copied.
use Rattle.std.proofs.Common.{ℕ, List, Ok, sym, ap, ◌∙◌, Result}
use Rattle.pass_record.specs.declared.fault.RecordFault.{RecordFault}
use Rattle.pass_record.specs.Fields.{md5_at}
use Rattle.pass_record.proofs.Parts.{md5_field}
use Rattle.pass_record.proofs.fields.take_md5.Goals as goal

abbrev found : List ℕ → List ℕ → Result (List ℕ × List ℕ) RecordFault
found rest md5 = Ok (md5, rest)

pub returns : goal.returns
returns c =
    ap md5_at c.in_ok-bytes.ensures.taken ∙ md5_field.again c.in_ok-bytes.bytes.now c.take_bytes.new.self c.in_ok-bytes.ensures.len
    ∙ ap (found c.take_bytes.new.self) (sym c.copy_from_slice.ensures.after)
