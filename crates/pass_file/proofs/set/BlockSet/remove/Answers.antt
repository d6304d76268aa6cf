use Rattle.std.proofs.Common.{◌≡◌, ◌∙◌, ◌&&◌, ◌==◌, not, ℕ, List, true, length, get_or, ap, sym, subst, arith}
use Rattle.std.specs.Prelude.{nat_lt}
use Rattle.pass_entry.proofs.Lists.{true_left, true_right, below_is, same_numbers}
use Rattle.pass_file.specs.BlockSets.{BlockSetView, is_among, IsRising}
use Rattle.pass_file.proofs.Members.{absent, among_remove, rising_remove}
use Rattle.pass_file.proofs.set.BlockSet.remove.Goals as goal

pub remove-requires : goal.remove-requires
remove-requires c =
    let i = c.self.inside.blocks in
    let p = c.place_of-place.result in
    let same = ap length (c.as_slice-blocks.ensures.blocks ∙ sym (ap (λ (w : BlockSetView). w.blocks) c.self.view_is)) in
    let n : ℕ = length c.as_slice-blocks.result.now in
    let low = below_is p n (true_left (nat_lt p n) (get_or c.as_slice-blocks.result.now p 0 == c.args.block) (sym c.is_there.ensures.place ∙ c.if-is_there.true)) in
    omega (arith, same, low, i.ok.0)

pub invariant_of-self : goal.invariant_of-self
invariant_of-self c =
    let i = c.self.inside.blocks in
    let p = c.place_of-place.result in
    let same = ap length (c.as_slice-blocks.ensures.blocks ∙ sym (ap (λ (w : BlockSetView). w.blocks) c.self.view_is)) in
    let n : ℕ = length c.as_slice-blocks.result.now in
    let low = below_is p n (true_left (nat_lt p n) (get_or c.as_slice-blocks.result.now p 0 == c.args.block) (sym c.is_there.ensures.place ∙ c.if-is_there.true)) in
    subst IsRising (sym c.remove.ensures.items) (rising_remove i.items c.self.invariant p (omega (arith, same, low)))

pub returns-then-is_there-clause-blocks : goal.returns-then-is_there-clause-blocks
returns-then-is_there-clause-blocks c = λ b.
    let i = c.self.inside.blocks in
    let p = c.place_of-place.result in
    let same : c.as_slice-blocks.result.now ≡ i.items = c.as_slice-blocks.ensures.blocks ∙ sym (ap (λ (w : BlockSetView). w.blocks) c.self.view_is) in
    let there = subst (λ (xs : List ℕ). (nat_lt p (length xs) && (get_or xs p 0 == c.args.block)) ≡ true) same (sym c.is_there.ensures.place ∙ c.if-is_there.true) in
    let low = below_is p (length i.items) (true_left (nat_lt p (length i.items)) (get_or i.items p 0 == c.args.block) there) in
    let is = same_numbers (get_or i.items p 0) c.args.block (true_right (nat_lt p (length i.items)) (get_or i.items p 0 == c.args.block) there) in
    ap (λ (xs : List ℕ). is_among xs b) c.remove.ensures.items ∙ among_remove i.items c.self.invariant p b low
    ∙ ap (λ (n : ℕ). is_among i.items b && not (n == b)) is
    ∙ ap (λ (w : BlockSetView). is_among w.blocks b && not (c.args.block == b)) c.self.view_is

pub returns-else-is_there-clause-blocks : goal.returns-else-is_there-clause-blocks
returns-else-is_there-clause-blocks c = λ b.
    absent c.args.self.now.blocks c.args.block b (ap (λ (xs : List ℕ). is_among xs c.args.block) (sym c.as_slice-blocks.ensures.blocks) ∙ sym c.is_there.ensures.among ∙ c.if-is_there.false)
