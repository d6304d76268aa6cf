use Rattle.std.proofs.Common.{◌≡◌, ◌∙◌, ◌||◌, ◌&&◌, ◌==◌, ℕ, List, false, length, get_or, ap, sym, subst, arith}
use Rattle.std.specs.Prelude.{nat_lt}
use Rattle.pass_file.specs.BlockSets.{BlockSetView, is_among, IsRising, IsPlace}
use Rattle.pass_file.proofs.Members.{already, among_insert, rising_insert}
use Rattle.pass_file.proofs.set.BlockSet.insert.Goals as goal

pub returns-then-is_there-clause-blocks : goal.returns-then-is_there-clause-blocks
returns-then-is_there-clause-blocks c = λ b.
    already c.args.self.now.blocks c.args.block b (ap (λ (xs : List ℕ). is_among xs c.args.block) (sym c.as_slice-blocks.ensures.blocks) ∙ sym c.is_there.ensures.among ∙ c.if-is_there.true)

pub insert_at-requires-clause-within : goal.insert_at-requires-clause-within
insert_at-requires-clause-within c =
    let i = c.self.inside.blocks in
    let same = ap length (c.as_slice-blocks.ensures.blocks ∙ sym (ap (λ (w : BlockSetView). w.blocks) c.self.view_is)) in
    let within = c.place_of-place.ensures.within in
    omega (arith, same, within, i.ok.0)

pub insert_at-requires-clause-room : goal.insert_at-requires-clause-room
insert_at-requires-clause-room c =
    let room = ap (λ (w : BlockSetView). w.room) c.self.view_is in
    let some = c.requires in
    omega (arith, room, some)

pub invariant_of-self : goal.invariant_of-self
invariant_of-self c =
    let i = c.self.inside.blocks in
    let p = c.place_of-place.result in
    let same : c.as_slice-blocks.result.now ≡ i.items = c.as_slice-blocks.ensures.blocks ∙ sym (ap (λ (w : BlockSetView). w.blocks) c.self.view_is) in
    subst IsRising (sym c.insert_at.ensures.items)
    (rising_insert i.items c.self.invariant p c.args.block
    (subst (λ (xs : List ℕ). IsPlace xs c.args.block p) same c.place_of-place.ensures)
    (subst (λ (xs : List ℕ). (nat_lt p (length xs) && (get_or xs p 0 == c.args.block)) ≡ false) same (sym c.is_there.ensures.place ∙ c.if-is_there.false)))

pub returns-clause-blocks : goal.returns-clause-blocks
returns-clause-blocks c = λ b.
    ap (λ (xs : List ℕ). is_among xs b) c.insert_at.ensures.items ∙ among_insert c.self.inside.blocks.items c.place_of-place.result c.args.block b
    ∙ ap (λ (w : BlockSetView). (c.args.block == b) || is_among w.blocks b) c.self.view_is
