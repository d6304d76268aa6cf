use Rattle.std.proofs.Common.{◌≡◌, ◌∙◌, ◌*◌, ap, sym, List, ℕ, arith, length, take, drop, replicate}
use Rattle.pass_plain.specs.Files.{written}
use Rattle.pass_table.specs.Tables.{BlocksView, flat}
use Rattle.pass_table.proofs.Flats.{starts, flat_length}
use Rattle.pass_table.proofs.Seen.{seen_any, zero_any, some_length}
use Rattle.pass_table.proofs.blocks.Blocks.write.Goals as goal

pub invariant_of-self : goal.invariant_of-self
invariant_of-self c =
    let a = c.args in
    let i = c.self.inside in
    let v = c.self.invariant in
    let e = c.enter_all.ensures in
    let old : List ℕ = flat i.table.items in
    let covered = v.covered in
    let low = v.low in
    let few = v.few in
    let count = e.count in
    let room = c.requires.room in
    let mine = ap (λ (w : BlocksView). w.room) c.self.view_is in
    let size : length old ≡ length i.table.items * 4096 = flat_length 4096 i.table.items v.whole ∙ starts (length i.table.items) in
    let now : length (flat c.enter_all.new.table.items) ≡ length c.enter_all.new.table.items * 4096 = flat_length 4096 c.enter_all.new.table.items e.whole ∙ starts (length c.enter_all.new.table.items) in
    let top = c.max-self-inside.ensures in
    let some = some_length (length a.bytes.now) (sym c.is_empty.ensures ∙ c.if-is_empty.false) in
    record {
      whole = e.whole;
      few = omega (arith, few, count);
      low = omega (arith, top, low, covered, room, mine, count);
      zero = (λ k. drop (top k) (e.flat k))
          ∙ zero_any old i.size a.at a.bytes.now some (omega (arith, low, size)) (omega (arith, room, mine, covered, size)) v.zero
          ∙ ap (λ n. replicate n 0) (omega (arith, size, now, count, top));
      spares = e.zero;
      enough = λ none. absurd (omega (arith, none));
      covered = omega arith;
    }

pub returns-clause-bytes : goal.returns-clause-bytes
returns-clause-bytes c =
    let a = c.args in
    let i = c.self.inside in
    let v = c.self.invariant in
    let e = c.enter_all.ensures in
    let old : List ℕ = flat i.table.items in
    let covered = v.covered in
    let low = v.low in
    let room = c.requires.room in
    let mine = ap (λ (w : BlocksView). w.room) c.self.view_is in
    let size : length old ≡ length i.table.items * 4096 = flat_length 4096 i.table.items v.whole ∙ starts (length i.table.items) in
    let top = c.max-self-inside.ensures in
    let some = some_length (length a.bytes.now) (sym c.is_empty.ensures ∙ c.if-is_empty.false) in
    (λ k. take (top k) (e.flat k))
    ∙ seen_any old i.size a.at a.bytes.now some (omega (arith, low, size)) (omega (arith, room, mine, covered, size)) v.zero
    ∙ ap (λ (w : BlocksView). written w.bytes a.at a.bytes.now) c.self.view_is

pub returns-clause-nothing : goal.returns-clause-nothing
returns-clause-nothing c = λ none.
    let some = some_length (length c.args.bytes.now) (sym c.is_empty.ensures ∙ c.if-is_empty.false) in
    let no = ap length none in
    absurd (omega (arith, some, no))
