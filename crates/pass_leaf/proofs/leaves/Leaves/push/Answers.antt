use Rattle.std.proofs.Common.{◌<◌, List, subst, sym}
use Rattle.pass_leaf.specs.Leaves.{Leaf}
use Rattle.pass_leaf.specs.Contents.{last_version}
use Rattle.pass_leaf.proofs.Lists.{are_either}
use Rattle.pass_leaf.proofs.leaves.Leaves.push.Goals as goal

pub invariant_of-self : goal.invariant_of-self
invariant_of-self c =
    let list : List Leaf = c.self.inside.list.items in (
      are_either list c.add.new.list.items c.args.leaf c.add.result c.self.invariant.0 c.requires.formed
          (subst (λ (l : List Leaf). last_version l c.args.leaf.node.pnode < c.args.leaf.node.version) (sym c.self.view_is) c.requires.above) c.add.ensures.ok c.add.ensures.err,
      c.add.ensures.places,
    )
