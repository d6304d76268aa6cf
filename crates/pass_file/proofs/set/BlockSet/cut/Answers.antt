use Rattle.std.proofs.Common.{◌≡◌, ◌∙◌, ◌&&◌, ◌*◌, ℕ, List, ap, sym, subst}
use Rattle.std.specs.Prelude.{nat_lt}
use Rattle.pass_file.specs.BlockSets.{BlockSetView, is_among, IsRising, IsPlace}
use Rattle.pass_file.proofs.Members.{among_cut, rising_take}
use Rattle.pass_file.proofs.set.BlockSet.cut.Goals as goal

pub invariant_of-self : goal.invariant_of-self
invariant_of-self c = subst IsRising (sym c.truncate.ensures.items) (rising_take c.self.inside.blocks.items c.self.invariant c.place_of-place.result)

pub returns-clause-blocks : goal.returns-clause-blocks
returns-clause-blocks c = λ b.
    let i = c.self.inside.blocks in
    let p = c.place_of-place.result in
    let same : c.as_slice.result.now ≡ i.items = c.as_slice.ensures.blocks ∙ sym (ap (λ (w : BlockSetView). w.blocks) c.self.view_is) in
    let e = c.blocks_for-below.ensures in
    ap (λ (xs : List ℕ). is_among xs b) c.truncate.ensures.items
    ∙ among_cut i.items c.self.invariant p c.blocks_for-below.result c.args.size b (subst (λ (xs : List ℕ). IsPlace xs c.blocks_for-below.result p) same c.place_of-place.ensures) e.covers e.least
    ∙ ap (λ (w : BlockSetView). is_among w.blocks b && nat_lt (b * 4096) c.args.size) c.self.view_is
