use Rattle.std.proofs.Common.{ap, sym, ◌∙◌, subst}
use Rattle.pass_book.specs.Tokens.{DeskState}
use Rattle.pass_proc.specs.Views.{ProcessView, IsProcess, process_of}
use Rattle.pass_proc.proofs.Denials.{denied}
use Rattle.pass_proc.proofs.desk.ProcessDesk.deny.Goals as goal

pub invariant_of-self : goal.invariant_of-self
invariant_of-self g c =
    let d = c.enter.ensures.desk in
    let i = c.self.inside in
    let p : ProcessView = process_of i.who i.desk.seen i.holdings i.versions in
    let n = denied g.J.Whose.book.session c.args.caller.now.seen c.enter.new.self.seen c.args.number c.args.call p c.self.invariant.2 c.args.ask c.args.fault c.enter.ensures.entry.entered c.enter.ensures.entry.few in (
      ap (λ (d : DeskState). d.book) d ∙ c.self.invariant.0,
      ap (λ (d : DeskState). d.what) d ∙ c.self.invariant.1,
      subst (λ h. IsProcess g.J.Whose.book.session (record p { seen = h })) (sym (ap (λ (d : DeskState). d.seen) d)) n,
    )
