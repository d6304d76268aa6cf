use Rattle.pass_waldo.proofs.index.Index.children.Goals as goal

pub returns : goal.returns
returns c = rw (c.children.ensures, ← c.self.view_is) (c.self.invariant.edges.children c.args.node)
