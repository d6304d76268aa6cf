use Rattle.std.proofs.Common.{arith, take, drop, sym, subst}
use Rattle.std.proofs.lemmas.Result.{on_ok_weaker}
use Rattle.pass_leaf.specs.Contents.{AreLeaves}
use Rattle.pass_leaf.proofs.Lists.{are-front}
use Rattle.pass_leaf.proofs.Shelves.{parts}
use Rattle.pass_leaf.proofs.old.Old.check.Goals as goal

pub returns-clause-ok : goal.returns-clause-ok
returns-clause-ok g c = rw (← c.self.view_is) (on_ok_weaker c.check.result (λ low. omega (arith, low, c.self.invariant.ends.settled.opened)) c.check.ensures.ok)

pub returns-clause-are : goal.returns-clause-are
returns-clause-are g c =
    let stock = c.self.inside.shelf.stock in
    rw (← c.self.view_is) (are-front (take stock.written stock.leaves) (drop stock.written stock.leaves) (subst AreLeaves (sym (parts stock.written stock.leaves)) c.self.invariant.stocked.are))
