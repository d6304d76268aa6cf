use Rattle.std.proofs.Common.{◌≡◌, ap, sym, ◌∙◌, subst, [], arith, Some}
use Rattle.std.specs.FinSet.{len}
use Rattle.pass_entry.specs.declared.entry.Entry.{Entry}
use Rattle.pass_entry.specs.declared.objects.Node.{Node}
use Rattle.pass_plain.specs.Legal.{IsLegal}
use Rattle.pass_plain.specs.Lineages.{used}
use Rattle.pass_plain.specs.Processes.{Process, process_act}
use Rattle.pass_plain.specs.Sound.{IsSound}
use Rattle.pass_plain.specs.Versions.{nodes_of, source_in}
use Rattle.pass_version.specs.States.{VersionState}
use Rattle.pass_book.specs.Tokens.{BookId, DeskState}
use Rattle.pass_proc.specs.Views.{ProcessView, IsProcess, process_of}
use Rattle.pass_proc.proofs.Own.{use_plain, no_records, fitting, use_now, use_node}
use Rattle.pass_proc.proofs.desk.ProcessDesk.enter_use.Goals as goal

pub apply-requires-clause-offsets : goal.apply-requires-clause-offsets
apply-requires-clause-offsets g c =
    let i = c.self.inside in
    let v = c.self.invariant in
    fitting g.J.Whose.book.session (process_of i.who i.desk.seen i.holdings i.versions) v.2 (subst (λ (b : BookId). IsSound b.session) v.0 c.seen.ensures.sound)
    (subst (λ (b : BookId). IsLegal b.session i.desk.seen) v.0 c.seen.ensures.legal)

pub enter-place-requires-clause-slip : goal.enter-place-requires-clause-slip
enter-place-requires-clause-slip g c =
    let S = g.J.Whose.book.session in
    c.new.ensures ∙ no_records S c.self.inside.desk.seen (source_in (nodes_of S c.args.caller.now.seen) c.args.entry) c.args.entry c.requires.done (use_plain c.args.entry.act c.requires.act)

pub invariant_of-self : goal.invariant_of-self
invariant_of-self g c =
    let S = g.J.Whose.book.session in
    let d = c.enter-place.ensures.desk in
    let i = c.self.inside in
    let e : Entry = c.args.entry in
    let p : ProcessView = process_of i.who i.desk.seen i.holdings i.versions in
    let own : e.what ≡ i.who = c.requires.own.1 ∙ sym (ap (λ (p : ProcessView). p.who) c.self.view_is) in
    let need = c.requires.sources in
    let spare = ap (λ (p : ProcessView). p.spare) c.self.view_is in
    let count = ap (λ (p : ProcessView). len p.state.children) c.self.view_is in
    let n = use_now S c.args.caller.now.seen c.enter-place.new.self.seen p c.self.invariant.2 e c.requires.done own c.enter-place.ensures.entry.entered c.requires.act c.enter-place.ensures.entry.few (omega (arith, need, spare, count)) c.apply.new.self.room in
    let state : c.apply.new.self.state ≡ process_act [] i.holdings.state e.act = c.apply.ensures.state [] ((use_plain e.act c.requires.act).gains [] []) in (
      ap (λ (d : DeskState). d.book) d ∙ c.self.invariant.0,
      ap (λ (d : DeskState). d.what) d ∙ c.self.invariant.1,
      subst (λ (v : VersionState). IsProcess S (process_of i.who c.enter-place.new.desk.seen c.apply.new.self v)) (sym c.mark-node.ensures.marked)
          (subst (λ (s : Process). IsProcess S (record p { seen = c.enter-place.new.desk.seen; state = s; lineage = used p.lineage; room = c.apply.new.self.room })) (sym state)
          (subst (λ h. IsProcess S (record p { seen = h; state = process_act [] p.state e.act; lineage = used p.lineage; room = c.apply.new.self.room })) (sym (ap (λ (d : DeskState). d.seen) d)) n)),
    )

pub returns-clause-at : goal.returns-clause-at
returns-clause-at g c =
    let i = c.self.inside in
    let own : c.args.entry.what ≡ i.who = c.requires.own.1 ∙ sym (ap (λ (p : ProcessView). p.who) c.self.view_is) in
    record {
      place = c.enter-place.ensures.place;
      node = use_node g.J.Whose.book.session c.args.caller.now.seen c.enter-place.new.self.seen (process_of i.who i.desk.seen i.holdings i.versions) c.self.invariant.2 c.args.entry c.requires.done own
          c.enter-place.ensures.entry.entered c.requires.act c.enter-place.result c.enter-place.ensures.place
          ∙ ap (λ (n : Node). Some n) (sym c.mark-node.ensures.answer);
    }
