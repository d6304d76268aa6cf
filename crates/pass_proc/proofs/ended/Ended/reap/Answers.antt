use Rattle.std.proofs.Common.{ap, sym, ◌∙◌, subst, Some}
use Rattle.pass_entry.specs.declared.objects.Node.{Node}
use Rattle.pass_plain.specs.Lineages.{used}
use Rattle.pass_version.specs.States.{VersionState}
use Rattle.pass_book.specs.Tokens.{DeskState}
use Rattle.pass_proc.specs.Ends.{EndedView, HasEnded}
use Rattle.pass_proc.proofs.Endings.{reap_ready, reaped, reaped_node}
use Rattle.pass_proc.proofs.ended.Ended.reap.Goals as goal

pub enter-place-requires-clause-object : goal.enter-place-requires-clause-object
enter-place-requires-clause-object g c = reap_ready g.J.Whose.book.session c.self.inside.desk.seen c.args.who c.args.number c.self.inside.who c.self.invariant.2.ended

pub invariant_of-self : goal.invariant_of-self
invariant_of-self g c =
    let S = g.J.Whose.book.session in
    let d = c.enter-place.ensures.desk in
    let i = c.self.inside in
    let p : EndedView = record { who = i.who; seen = i.desk.seen; lineage = i.versions.lineage } in
    let n = reaped S c.args.caller.now.seen c.enter-place.new.self.seen p c.self.invariant.2 c.args.who c.args.number c.enter-place.ensures.entry.entered in (
      ap (λ (d : DeskState). d.book) d ∙ c.self.invariant.0,
      ap (λ (d : DeskState). d.what) d ∙ c.self.invariant.1,
      subst (λ (v : VersionState). HasEnded S (record p { seen = c.enter-place.new.desk.seen; lineage = v.lineage })) (sym c.mark-node.ensures.marked)
          (subst (λ h. HasEnded S (record p { seen = h; lineage = used p.lineage })) (sym (ap (λ (d : DeskState). d.seen) d)) n),
    )

pub returns-clause-at : goal.returns-clause-at
returns-clause-at g c =
    let i = c.self.inside in
    let p : EndedView = record { who = i.who; seen = i.desk.seen; lineage = i.versions.lineage } in
    record {
      place = c.enter-place.ensures.place;
      node = reaped_node g.J.Whose.book.session c.args.caller.now.seen c.enter-place.new.self.seen p c.self.invariant.2 c.args.who c.args.number c.enter-place.ensures.entry.entered c.enter-place.result c.enter-place.ensures.place
          ∙ ap (λ (n : Node). Some n) (sym c.mark-node.ensures.answer);
    }
