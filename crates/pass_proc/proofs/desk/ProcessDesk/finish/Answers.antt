use Rattle.std.proofs.Common.{ap, sym, ◌∙◌, subst}
use Rattle.pass_book.specs.Tokens.{DeskState}
use Rattle.pass_proc.specs.Ends.{HasEnded}
use Rattle.pass_proc.specs.Views.{ProcessView, process_of}
use Rattle.pass_proc.proofs.Endings.{ended_now}
use Rattle.pass_proc.proofs.desk.ProcessDesk.finish.Goals as goal

pub invariant_of-ended : goal.invariant_of-ended
invariant_of-ended g c =
    let S = g.J.Whose.book.session in
    let d = c.finish-place.ensures.desk in
    let i = c.self.inside in
    let p : ProcessView = process_of i.who i.desk.seen i.holdings i.versions in
    let n = ended_now S c.args.caller.seen c.finish-place.result.1.seen c.args.number p c.self.invariant.2 c.finish-place.ensures.entered in (
      ap (λ (d : DeskState). d.book) d ∙ c.self.invariant.0,
      ap (λ (d : DeskState). d.what) d ∙ c.self.invariant.1,
      subst (λ h. HasEnded S (record { who = i.who; seen = h; lineage = i.versions.lineage })) (sym (ap (λ (d : DeskState). d.seen) d)) n,
    )
