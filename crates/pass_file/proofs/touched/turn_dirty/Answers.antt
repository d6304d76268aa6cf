use Rattle.std.proofs.Common.{◌∙◌, ◌+◌, ◌*◌, ◌≤◌, ◌||◌, ◌&&◌, ℕ, ap, arith}
use Rattle.std.specs.Prelude.{nat_lt, Option, Some, None, IfSome}
use Rattle.pass_file.specs.BlockSets.{is_among}
use Rattle.pass_file.specs.Touches.{is_at, is_within}
use Rattle.pass_file.proofs.Members.{or_assoc}
use Rattle.pass_file.proofs.touched.turn_dirty.Goals as goal

if_some : (P Q : Type 0) → (P → Q) → (o : Option ℕ) → IfSome o (λ _. P) → IfSome o (λ _. Q)
if_some P Q then_ None p = tt
if_some P Q then_ (Some e) p = then_ p

pub insert_some-requires : goal.insert_some-requires
insert_some-requires c =
    let t = c.args.touched.now in
    let cut = c.cut.ensures.room in
    let all = c.insert_all.ensures.room in
    if_some (t.end + 1 ≤ t.first + c.args.dirty.now.room) (1 ≤ c.insert_all.new.self.room) (λ p. omega (arith, cut, all, p)) t.edge c.requires.edge

pub returns : goal.returns
returns c = λ (b : ℕ).
    let t = c.args.touched.now in
    c.insert_some.ensures b
    ∙ ap (λ w. is_at t.edge b || w) (c.insert_all.ensures.blocks b ∙ ap (λ w. is_within t.first t.end b || w) (c.cut.ensures.blocks b))
    ∙ or_assoc (is_at t.edge b) (is_within t.first t.end b) (is_among c.args.dirty.now.blocks b && nat_lt (b * 4096) t.size)
