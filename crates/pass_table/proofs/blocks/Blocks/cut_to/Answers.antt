use Rattle.std.proofs.Common.{◌∙◌, length, ap, sym, arith}
use Rattle.std.proofs.lemmas.List.{length-take-le}
use Rattle.pass_plain.specs.Files.{resized}
use Rattle.pass_table.specs.Tables.{BlocksView, flat}
use Rattle.pass_table.proofs.Flats.{starts, flat_length}
use Rattle.pass_table.proofs.Growing.{zero_smaller, seen_smaller}
use Rattle.pass_table.proofs.blocks.Blocks.cut_to.Goals as goal

pub cut-requires-clause-low : goal.cut-requires-clause-low
cut-requires-clause-low c =
    let i = c.self.inside in
    let v = c.self.invariant in
    let low = v.low in
    let long = flat_length 4096 i.table.items v.whole ∙ starts (length i.table.items) in
    let size = sym (length-take-le i.size (flat i.table.items) (omega (arith, low, long))) ∙ ap (λ (w : BlocksView). length w.bytes) c.self.view_is in
    let less = c.requires in
    omega (arith, size, less, low)

pub invariant_of-self : goal.invariant_of-self
invariant_of-self c =
    let a = c.args in
    let i = c.self.inside in
    let v = c.self.invariant in
    let e = c.cut.ensures in
    let low = v.low in
    let few = v.few in
    let fewer = e.few in
    let long = flat_length 4096 i.table.items v.whole ∙ starts (length i.table.items) in
    let size = sym (length-take-le i.size (flat i.table.items) (omega (arith, low, long))) ∙ ap (λ (w : BlocksView). length w.bytes) c.self.view_is in
    let less = c.requires in
    record {
      whole = e.whole;
      few = omega (arith, few, fewer);
      low = e.covers;
      zero = zero_smaller (flat i.table.items) (flat c.cut.new.table.items) i.size a.size (omega (arith, low, long)) (omega (arith, size, less)) e.flat;
      spares = v.spares;
      enough = λ none. absurd (omega (arith, none));
      covered = omega arith;
    }

pub returns-clause-bytes : goal.returns-clause-bytes
returns-clause-bytes c =
    let a = c.args in
    let i = c.self.inside in
    let v = c.self.invariant in
    let low = v.low in
    let long = flat_length 4096 i.table.items v.whole ∙ starts (length i.table.items) in
    let size = sym (length-take-le i.size (flat i.table.items) (omega (arith, low, long))) ∙ ap (λ (w : BlocksView). length w.bytes) c.self.view_is in
    let less = c.requires in
    seen_smaller (flat i.table.items) (flat c.cut.new.table.items) i.size a.size (omega (arith, low, long)) (omega (arith, size, less)) c.cut.ensures.flat
    ∙ ap (λ (w : BlocksView). resized w.bytes a.size) c.self.view_is
