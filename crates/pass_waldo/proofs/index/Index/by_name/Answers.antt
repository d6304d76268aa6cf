use Rattle.pass_waldo.proofs.index.Index.by_name.Goals as goal

pub returns : goal.returns
returns c = rw (c.files.ensures, c.as_bytes.ensures.bytes, ← c.self.view_is) (c.self.invariant.texts.files c.args.name.now)
