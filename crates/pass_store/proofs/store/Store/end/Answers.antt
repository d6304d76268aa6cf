use Rattle.std.proofs.Common.{List, subst, sym}
use Rattle.pass_entry.specs.declared.entry.Entry.{Entry}
use Rattle.pass_plain.specs.Legal.{IsLegal}
use Rattle.pass_safe.specs.Grounds.{HasGoneOn}
use Rattle.pass_store.proofs.store.Store.end.Goals as goal

pub returns-clause-legal : goal.returns-clause-legal
returns-clause-legal g c = subst (λ (h : List Entry). IsLegal g.J.Whose.book.session h) (sym c.close.ensures.history) c.unsettled-history.ensures.legal

pub returns-clause-gone_on : goal.returns-clause-gone_on
returns-clause-gone_on g c = subst (λ d. HasGoneOn g.J.Opening.tells g.J.Opening.ground.opened (g.D.Disk.view d)) (sym c.close.ensures.disk) c.unsettled-history.ensures.gone_on
