use Rattle.std.proofs.Common.{List, length, ap, sym, subst, arith}
use Rattle.pass_leaf.specs.Leaves.{Leaf}
use Rattle.pass_leaf.specs.Archives.{IsArchiveOn}
use Rattle.pass_leaf.proofs.Shelves.{whole_of}
use Rattle.pass_leaf.proofs.old.Old.open.Goals as goal

pub returns-in-Ok-clause-leaves : goal.returns-in-Ok-clause-leaves
returns-in-Ok-clause-leaves g c =
    let s = c.stock_of.ensures in
    let whole = whole_of c.in-Ok.found.leaves c.stock_of.result.leaves c.stock_of.result.written s.leaves s.written in
    subst (λ (l : List Leaf). IsArchiveOn (g.A.Disk.view c.args.archive) l c.in-Ok.tail.end) (sym whole.0) c.in-Ok.ensures.leaves

pub returns-in-Ok-clause-gathered : goal.returns-in-Ok-clause-gathered
returns-in-Ok-clause-gathered g c = (whole_of c.in-Ok.found.leaves c.stock_of.result.leaves c.stock_of.result.written c.stock_of.ensures.leaves c.stock_of.ensures.written).1

pub returns-in-Ok-clause-unwritten : goal.returns-in-Ok-clause-unwritten
returns-in-Ok-clause-unwritten g c = λ some.
    let s = c.stock_of.ensures in
    let whole = whole_of c.in-Ok.found.leaves c.stock_of.result.leaves c.stock_of.result.written s.leaves s.written in
    c.in-Ok.ensures.unwritten (omega (arith, some, ap length whole.0))
