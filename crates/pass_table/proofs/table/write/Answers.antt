use Rattle.std.proofs.Common.{◌∙◌, ◌+◌, ◌*◌, ◌/◌, ◌%◌, arith, length}
use Rattle.pass_table.specs.Tables.{flat}
use Rattle.pass_table.proofs.Flats.{starts, flat_length, spliced}
use Rattle.pass_table.proofs.table.write.Goals as goal

pub returns-then-first-bytes-clause-flat : goal.returns-then-first-bytes-clause-flat
returns-then-first-bytes-clause-flat c =
    let a = c.args in
    let m = c.min-first.ensures in
    let less = c.if-first-bytes.true in
    let within = c.requires.within in
    let whole = flat_length 4096 a.table.now c.requires.whole ∙ starts (length a.table.now) in
    spliced (flat a.table.now) (flat c.put_in.new.table) (flat c.put_in-then-first-bytes.new.table) a.bytes.now a.at c.min-first.result (a.at / 4096 * 4096 + a.at % 4096) ((a.at / 4096 + 1) * 4096 + 0)
    (omega arith) (omega (arith, m, less)) (omega (arith, less)) (omega (arith, within, whole)) c.put_in.ensures.flat c.put_in-then-first-bytes.ensures.flat
