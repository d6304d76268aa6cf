use Rattle.std.proofs.Common.{◌≡◌, ap, sym, ◌∙◌, subst, arith, List, []}
use Rattle.std.specs.FinSet.{len}
use Rattle.pass_entry.specs.declared.entry.Entry.{Entry}
use Rattle.pass_entry.specs.declared.objects.Node.{Node}
use Rattle.pass_entry.specs.declared.record.Record.{Record}
use Rattle.pass_plain.specs.Legal.{IsLegal}
use Rattle.pass_plain.specs.Processes.{Process, process_act}
use Rattle.pass_plain.specs.Sound.{IsSound}
use Rattle.pass_version.specs.States.{VersionState}
use Rattle.pass_book.specs.Tokens.{BookId, DeskState}
use Rattle.pass_hold.specs.Slips.{taken_records}
use Rattle.pass_proc.specs.Acts.{room_needed}
use Rattle.pass_proc.specs.Views.{ProcessView, IsProcess, process_of}
use Rattle.pass_proc.proofs.Own.{fitting, version_low}
use Rattle.pass_proc.proofs.Takings.{take_of, slip_is, taken_now}
use Rattle.pass_proc.proofs.desk.ProcessDesk.enter_taking.Goals as goal

pub apply-requires-clause-offsets : goal.apply-requires-clause-offsets
apply-requires-clause-offsets g c =
    let i = c.self.inside in
    let v = c.self.invariant in
    fitting g.J.Whose.book.session (process_of i.who i.desk.seen i.holdings i.versions) v.2 (subst (λ (b : BookId). IsSound b.session) v.0 c.seen.ensures.sound)
    (subst (λ (b : BookId). IsLegal b.session i.desk.seen) v.0 c.seen.ensures.legal)

pub take-taken-requires-clause-version : goal.take-taken-requires-clause-version
take-taken-requires-clause-version g c =
    let i = c.self.inside in
    let v = c.self.invariant in
    version_low g.J.Whose.book.session (process_of i.who i.desk.seen i.holdings i.versions) v.2 (subst (λ (b : BookId). IsSound b.session) v.0 c.seen.ensures.sound)
    (subst (λ (b : BookId). IsLegal b.session i.desk.seen) v.0 c.seen.ensures.legal)

pub enter-requires-clause-slip : goal.enter-requires-clause-slip
enter-requires-clause-slip g c =
    let i = c.self.inside in
    let t = c.take-taken.ensures in
    let own : c.args.entry.what ≡ i.who = c.requires.own.1 ∙ sym (ap (λ (p : ProcessView). p.who) c.self.view_is) in
    c.slip_of-slip.ensures ∙ ap (λ (rs : List Record). taken_records c.take-taken.result c.current.result c.args.source.now rs) c.new.ensures.items
    ∙ ap (λ (n : Node). taken_records c.take-taken.result n c.args.source.now []) c.current.ensures
    ∙ slip_is g.J.Whose.book.session c.args.caller.now.seen (process_of i.who i.desk.seen i.holdings i.versions) c.args.entry c.args.source.now c.self.invariant.2 c.requires.act c.requires.done own c.requires.source
    c.take-taken.result c.take-taken.new.self.lineage t.answer t.linked

pub invariant_of-self : goal.invariant_of-self
invariant_of-self g c =
    let S = g.J.Whose.book.session in
    let d = c.enter.ensures.desk in
    let i = c.self.inside in
    let e : Entry = c.args.entry in
    let line = c.args.caller.now.seen in
    let p : ProcessView = process_of i.who i.desk.seen i.holdings i.versions in
    let own : e.what ≡ i.who = c.requires.own.1 ∙ sym (ap (λ (p : ProcessView). p.who) c.self.view_is) in
    let low = c.requires.sources in
    let spare = ap (λ (p : ProcessView). p.spare) c.self.view_is in
    let count = ap (λ (p : ProcessView). len (process_act [] p.state e.act).children) c.self.view_is in
    let v : VersionState = c.take-taken.new.self in
    let none : room_needed e.act ≡ 0 = (take_of e.act c.requires.act).roomless in
    let room = c.apply.ensures.room in
    let n = taken_now S line p e c.args.source.now c.self.invariant.2 c.requires.act c.requires.done own c.requires.source c.enter.new.self.seen c.enter.ensures.entry.entered
    v.lineage c.take-taken.ensures.linked c.enter.ensures.entry.few (omega (arith, low, spare, count)) v.spare c.take-taken.ensures.spare in
    let same : c.apply.new.self.room ≡ i.holdings.room = omega (arith, none, room) in
    let state : c.apply.new.self.state ≡ process_act line i.holdings.state e.act = c.apply.ensures.state line c.requires.gained in (
      ap (λ (d : DeskState). d.book) d ∙ c.self.invariant.0,
      ap (λ (d : DeskState). d.what) d ∙ c.self.invariant.1,
      subst (λ (s : Process). IsProcess S (record p { seen = c.enter.new.desk.seen; state = s; lineage = v.lineage; spare = v.spare; room = c.apply.new.self.room })) (sym state)
          (subst (λ m. IsProcess S (record p { seen = c.enter.new.desk.seen; state = process_act line p.state e.act; lineage = v.lineage; spare = v.spare; room = m })) (sym same)
          (subst (λ h. IsProcess S (record p { seen = h; state = process_act line p.state e.act; lineage = v.lineage; spare = v.spare })) (sym (ap (λ (d : DeskState). d.seen) d)) n)),
    )
