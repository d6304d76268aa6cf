use Rattle.std.proofs.Common.{ap, sym, ◌∙◌, subst}
use Rattle.pass_book.specs.Tokens.{DeskState}
use Rattle.pass_proc.specs.Ends.{EndedView, HasEnded}
use Rattle.pass_proc.proofs.Endings.{end_ready, end_shown}
use Rattle.pass_proc.proofs.ended.Ended.show_end.Goals as goal

pub enter-requires-clause-object : goal.enter-requires-clause-object
enter-requires-clause-object g c = end_ready g.J.Whose.book.session c.self.inside.desk.seen c.args.who c.args.number c.self.inside.who c.self.invariant.2.ended

pub invariant_of-self : goal.invariant_of-self
invariant_of-self g c =
    let S = g.J.Whose.book.session in
    let d = c.enter.ensures.desk in
    let i = c.self.inside in
    let p : EndedView = record { who = i.who; seen = i.desk.seen; lineage = i.versions.lineage } in
    let n = end_shown S c.args.caller.now.seen c.enter.new.self.seen p c.self.invariant.2 c.args.who c.args.number c.enter.ensures.entry.entered in (
      ap (λ (d : DeskState). d.book) d ∙ c.self.invariant.0,
      ap (λ (d : DeskState). d.what) d ∙ c.self.invariant.1,
      subst (λ h. HasEnded S (record p { seen = h })) (sym (ap (λ (d : DeskState). d.seen) d)) n,
    )
