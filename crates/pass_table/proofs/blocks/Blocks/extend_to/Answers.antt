use Rattle.std.proofs.Common.{◌∙◌, length, ap, sym, arith}
use Rattle.std.proofs.lemmas.List.{length-take-le}
use Rattle.pass_plain.specs.Files.{resized}
use Rattle.pass_table.specs.Tables.{BlocksView, flat}
use Rattle.pass_table.proofs.Flats.{starts, flat_length}
use Rattle.pass_table.proofs.Growing.{zero_larger, seen_larger}
use Rattle.pass_table.proofs.blocks.Blocks.extend_to.Goals as goal

pub invariant_of-self : goal.invariant_of-self
invariant_of-self c =
    let a = c.args in
    let i = c.self.inside in
    let v = c.self.invariant in
    let low = v.low in
    let covered = v.covered in
    let room = c.requires.room in
    let mine = ap (λ (w : BlocksView). w.room) c.self.view_is in
    let long = flat_length 4096 i.table.items v.whole ∙ starts (length i.table.items) in
    let size = sym (length-take-le i.size (flat i.table.items) (omega (arith, low, long))) ∙ ap (λ (w : BlocksView). length w.bytes) c.self.view_is in
    let larger = c.requires.larger in
    record {
      whole = v.whole;
      few = v.few;
      low = omega (arith, covered, room, mine);
      zero = zero_larger (flat i.table.items) i.size a.size (omega (arith, low, long)) (omega (arith, size, larger)) (omega (arith, covered, room, mine, long)) v.zero;
      spares = v.spares;
      enough = v.enough;
      covered = v.covered;
    }

pub returns-clause-bytes : goal.returns-clause-bytes
returns-clause-bytes c =
    let a = c.args in
    let i = c.self.inside in
    let v = c.self.invariant in
    let low = v.low in
    let covered = v.covered in
    let room = c.requires.room in
    let mine = ap (λ (w : BlocksView). w.room) c.self.view_is in
    let long = flat_length 4096 i.table.items v.whole ∙ starts (length i.table.items) in
    let size = sym (length-take-le i.size (flat i.table.items) (omega (arith, low, long))) ∙ ap (λ (w : BlocksView). length w.bytes) c.self.view_is in
    let larger = c.requires.larger in
    seen_larger (flat i.table.items) i.size a.size (omega (arith, low, long)) (omega (arith, size, larger)) (omega (arith, covered, room, mine, long)) v.zero
    ∙ ap (λ (w : BlocksView). resized w.bytes a.size) c.self.view_is
