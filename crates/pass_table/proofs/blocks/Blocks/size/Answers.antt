use Rattle.std.proofs.Common.{◌∙◌, length, ap, sym, arith}
use Rattle.std.proofs.lemmas.List.{length-take-le}
use Rattle.pass_table.specs.Tables.{BlocksView, flat}
use Rattle.pass_table.proofs.Flats.{starts, flat_length}
use Rattle.pass_table.proofs.blocks.Blocks.size.Goals as goal

pub returns : goal.returns
returns c =
    let i = c.self.inside in
    let v = c.self.invariant in
    let low = v.low in
    let long = flat_length 4096 i.table.items v.whole ∙ starts (length i.table.items) in
    sym (length-take-le i.size (flat i.table.items) (omega (arith, low, long))) ∙ ap (λ (w : BlocksView). length w.bytes) c.self.view_is
