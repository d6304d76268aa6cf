use Rattle.std.proofs.Common.{◌≡◌, ap, ◌∙◌, subst, sym, true}
use Rattle.pass_plain.specs.Lawful.{AgreeOn}
use Rattle.pass_plain.specs.Processes.{has_ended}
use Rattle.pass_book.specs.Tokens.{DeskState}
use Rattle.pass_proc.specs.Ends.{EndedView, HasEnded}
use Rattle.pass_proc.proofs.Endings.{ended_seen}
use Rattle.pass_proc.proofs.ended.Ended.look.Goals as goal

pub invariant_of-self : goal.invariant_of-self
invariant_of-self g c =
    let S = g.J.Whose.book.session in
    let n = c.show.ensures in
    let i = c.self.inside in
    let h = c.args.shelf.now.history in
    let p : EndedView = record { who = i.who; seen = i.desk.seen; lineage = i.versions.lineage } in (
      ap (λ (d : DeskState). d.book) n.desk ∙ c.self.invariant.0,
      ap (λ (d : DeskState). d.what) n.desk ∙ c.self.invariant.1,
      subst (λ s. HasEnded S (record p { seen = s })) (sym (ap (λ (d : DeskState). d.seen) n.desk))
          (ended_seen S p h c.self.invariant.2 n.object.0 (subst (λ o. AgreeOn o i.desk.seen h) c.self.invariant.1 n.object.1) n.legal),
    )

pub returns-clause-ended : goal.returns-clause-ended
returns-clause-ended g c =
    let n = c.show.ensures in
    let i = c.self.inside in
    let h = c.args.shelf.now.history in
    let p : EndedView = record { who = i.who; seen = i.desk.seen; lineage = i.versions.lineage } in
    subst (λ (v : EndedView). has_ended h v.who ≡ true) c.self.view_is
    (ended_seen g.J.Whose.book.session p h c.self.invariant.2 n.object.0 (subst (λ o. AgreeOn o i.desk.seen h) c.self.invariant.1 n.object.1) n.legal).ended
