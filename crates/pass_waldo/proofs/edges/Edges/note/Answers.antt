use Rattle.std.proofs.Common.{◌≤◌, ◌-◌, inl, inr, refl, subst, arith}
use Rattle.pass_entry.specs.declared.objects.Node.{Node}
use Rattle.pass_entry.proofs.Variants.{on_both}
use Rattle.pass_waldo.specs.Index.{IsNumbered}
use Rattle.pass_waldo.proofs.Indexing.{edge_added, edges_stay}
use Rattle.pass_waldo.proofs.edges.Edges.note.Goals as goal

pub returns-in-Input : goal.returns-in-Input
returns-in-Input c = on_both c.add.result (λ parents children list are.
    edge_added list c.args.one.now c.in-Input.target c.in-Input.source (inl c.in-Input.is) c.args.self.now c.add.new.self parents children are) c.add.ensures.parents c.add.ensures.children

pub returns-in-Version : goal.returns-in-Version
returns-in-Version c =
    let node : Node = c.in-Version.node in
    let before : Node = record { pnode = node.pnode; version = node.version - 1 } in
    let low : 1 ≤ node.version = subst IsNumbered c.in-Version.is c.requires.numbered in
    on_both c.add-in-Version.result (λ parents children list are.
    edge_added list c.args.one.now node before (inr (c.in-Version.is, refl, omega (arith, low))) c.args.self.now c.add-in-Version.new.self parents children are)
    c.add-in-Version.ensures.parents c.add-in-Version.ensures.children

pub returns-in_default : goal.returns-in_default
returns-in_default c = λ list are.
    edges_stay list c.args.one.now (λ a b is. c.in_default.not-Input a b is) (λ a is. c.in_default.not-Version a is) c.args.self.now are
