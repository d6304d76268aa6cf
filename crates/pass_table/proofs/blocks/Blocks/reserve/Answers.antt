use Rattle.std.proofs.Common.{◌∙◌, ⊎_elim, ℕ, List, length, ap, arith}
use Rattle.pass_table.specs.Tables.{BlocksView, flat}
use Rattle.pass_table.proofs.Flats.{starts, flat_length}
use Rattle.pass_table.proofs.Growing.{zero_more, seen_more}
use Rattle.pass_table.proofs.blocks.Blocks.reserve.Goals as goal
use Rattle.pass_entry.proofs.Variants.{err_always}

pub returns-in_err-lengthen-clause-bytes : goal.returns-in_err-lengthen-clause-bytes
returns-in_err-lengthen-clause-bytes c =
    let i = c.self.inside in
    let v = c.self.invariant in
    let low = v.low in
    let long = flat_length 4096 i.table.items v.whole ∙ starts (length i.table.items) in
    seen_more (flat i.table.items) (flat c.lengthen.new.table.items) i.size (omega (arith, low, long)) c.lengthen.ensures.flat ∙ ap (λ (w : BlocksView). w.bytes) c.self.view_is

pub returns-in_err-lengthen-clause-err : goal.returns-in_err-lengthen-clause-err
returns-in_err-lengthen-clause-err c =
    let i = c.self.inside in
    let v = c.self.invariant in
    let low = v.low in
    let long = flat_length 4096 i.table.items v.whole ∙ starts (length i.table.items) in
    let seen = seen_more (flat i.table.items) (flat c.lengthen.new.table.items) i.size (omega (arith, low, long)) c.lengthen.ensures.flat in
    err_always c.from_residual-in_err-lengthen.result _ (ap (λ (bytes : List ℕ). let w : BlocksView = record { bytes = bytes; room = i.room } in w) seen ∙ c.self.view_is)

pub invariant_of-self-2 : goal.invariant_of-self-2
invariant_of-self-2 c =
    let i = c.self.inside in
    let v = c.self.invariant in
    let e = c.lengthen.ensures in
    let low = v.low in
    let covered = v.covered in
    let grows = e.grows in
    let wants = c.blocks_for.ensures.covers in
    let has = c.in_ok-lengthen.ensures.covers in
    let top = c.max-self-inside.ensures in
    let long = flat_length 4096 i.table.items v.whole ∙ starts (length i.table.items) in
    let now = flat_length 4096 c.lengthen.new.table.items e.whole ∙ starts (length c.lengthen.new.table.items) in
    record {
      whole = e.whole;
      few = e.limit;
      low = omega (arith, low, grows);
      zero = zero_more (flat i.table.items) (flat c.lengthen.new.table.items) i.size (omega (arith, low, long)) (omega (arith, long, now, grows)) v.zero e.flat;
      spares = c.top_up-2.ensures.zero;
      enough = λ some. ⊎_elim (λ two. two)
          (λ one. ⊎_elim (λ two. omega (arith, one, two)) (λ first. omega (arith, one, first)) c.in_ok-top_up.ensures.more)
          c.in_ok-top_up-2.ensures.more;
      covered = omega (arith, top, covered, grows, wants, has);
    }

pub returns-clause-bytes : goal.returns-clause-bytes
returns-clause-bytes c =
    let i = c.self.inside in
    let v = c.self.invariant in
    let low = v.low in
    let long = flat_length 4096 i.table.items v.whole ∙ starts (length i.table.items) in
    seen_more (flat i.table.items) (flat c.lengthen.new.table.items) i.size (omega (arith, low, long)) c.lengthen.ensures.flat ∙ ap (λ (w : BlocksView). w.bytes) c.self.view_is
