use Rattle.std.proofs.Common.{◌≡◌, ◌∙◌, List, ap, subst, sym}
use Rattle.pass_entry.specs.declared.entry.Entry.{Entry}
use Rattle.pass_plain.specs.Legal.{IsLegal}
use Rattle.pass_book.proofs.Backed.{still_backed}
use Rattle.pass_book.specs.Syncs.{IsBacked}
use Rattle.pass_book.specs.Tokens.{NoteState}
use Rattle.pass_vault.specs.Vaulted.{Vaulted}
use Rattle.pass_safe.specs.Grounds.{HasGoneOn, ground_of}
use Rattle.pass_safe.specs.Safes.{IsLost}
use Rattle.pass_store.proofs.Closing.{meets_whole}
use Rattle.pass_store.proofs.settling.settle_files.Goals as goal

pub returns-clause-legal : goal.returns-clause-legal
returns-clause-legal g c = subst (λ (h : List Entry). IsLegal g.J.Whose.book.session h) (sym c.finish-settled.ensures.history) c.finish-settled.ensures.legal

pub returns-clause-whole : goal.returns-clause-whole
returns-clause-whole g c =
    let e = c.finish-settled.ensures in
    let r = c.finish-settled.result in
    let h = c.args.shelf.history in
    let told : r.told.seen ≡ h = ap (λ (n : NoteState). n.seen) e.note in
    meets_whole r.vault.seen c.meet.new.self.seen r.told.seen h c.meet.ensures.met.history told e.told ∙ sym e.history

pub returns-clause-backed : goal.returns-clause-backed
returns-clause-backed g c =
    let S = g.J.Whose.book.session in
    let e = c.finish-settled.ensures in
    let syncs = c.meet.new.self.syncs in
    subst (λ (h : List Entry). IsBacked S h syncs) (sym e.history) (still_backed S c.args.shelf.history c.finish-settled.result.told.syncs syncs c.meet.ensures.met.told_listed e.backed)

pub returns-clause-ground : goal.returns-clause-ground
returns-clause-ground g c = ap ground_of c.meet.ensures.same ∙ c.finish-settled.ensures.ground

pub returns-clause-gone_on : goal.returns-clause-gone_on
returns-clause-gone_on g c =
    subst (λ d. HasGoneOn g.J.Opening.tells g.J.Opening.ground.opened (g.D.Disk.view d)) (sym (ap (λ (v : Vaulted _). v.disk) c.meet.ensures.same)) c.finish-settled.ensures.gone_on

pub returns-clause-failed : goal.returns-clause-failed
returns-clause-failed g c = λ opened found is.
    subst (λ d. IsLost (g.D.Disk.view d) g.J.Opening.ground.opened (record { opened = opened; found = found })) (sym (ap (λ (v : Vaulted _). v.disk) c.meet.ensures.same)) (c.finish-settled.ensures.failed opened found is)
