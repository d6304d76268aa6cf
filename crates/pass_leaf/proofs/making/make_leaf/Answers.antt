use Rattle.std.proofs.Common.{rules, ◌<◌, ◌≤◌, ◌^◌, List, length, sym, subst, ap, arith}
use Rattle.pass_leaf.specs.declared.leaf.LeafBlock.{LeafBlock}
use Rattle.pass_leaf.specs.Leaves.{Leaf, IsFormed}
use Rattle.pass_leaf.proofs.Alike.{made_formed}
use Rattle.pass_leaf.proofs.Blocks.{leaf_bound}
use Rattle.pass_leaf.proofs.making.make_leaf.Goals as goal

pub of-requires : goal.of-requires
of-requires c =
    let node = c.args.node in
    let small : node.pnode < 2 ^ 64 = search rules in
    let low : node.version < 2 ^ 64 = search rules in
    subst (λ (blocks : List LeafBlock). IsFormed (record { node = node; size = length c.args.new.now; blocks = blocks })) (sym c.in_ok-blocks.ensures)
    (made_formed c.args.old.now c.args.new.now node c.requires.pnode small low c.requires.size)

pub returns-clause-formed : goal.returns-clause-formed
returns-clause-formed c =
    let node = c.args.node in
    let small : node.pnode < 2 ^ 64 = search rules in
    let low : node.version < 2 ^ 64 = search rules in
    subst IsFormed (sym c.of.ensures) (subst (λ (blocks : List LeafBlock). IsFormed (record { node = node; size = length c.args.new.now; blocks = blocks })) (sym c.in_ok-blocks.ensures)
    (made_formed c.args.old.now c.args.new.now node c.requires.pnode small low c.requires.size))

pub returns-clause-fits : goal.returns-clause-fits
returns-clause-fits c =
    let node = c.args.node in
    let small : node.pnode < 2 ^ 64 = search rules in
    let low : node.version < 2 ^ 64 = search rules in
    let formed : IsFormed c.of.result = subst IsFormed (sym c.of.ensures) (subst (λ (blocks : List LeafBlock). IsFormed (record { node = node; size = length c.args.new.now; blocks = blocks })) (sym c.in_ok-blocks.ensures)
    (made_formed c.args.old.now c.args.new.now node c.requires.pnode small low c.requires.size)) in
    let size : c.of.result.size ≤ 2 ^ 28 = omega (arith, c.requires.size, ap (λ (l : Leaf). l.size) c.of.ensures) in
    leaf_bound c.of.result formed size
