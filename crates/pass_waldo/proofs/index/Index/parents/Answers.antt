use Rattle.pass_waldo.proofs.index.Index.parents.Goals as goal

pub returns : goal.returns
returns c = rw (c.parents.ensures, ← c.self.view_is) (c.self.invariant.edges.parents c.args.node)
