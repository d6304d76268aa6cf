use Rattle.std.proofs.Common.{◌≡◌, ◌-◌, ap, sym, ◌∙◌, subst, arith, []}
use Rattle.std.specs.FinSet.{len}
use Rattle.pass_entry.specs.declared.objects.Node.{Node}
use Rattle.pass_plain.specs.Legal.{IsLegal}
use Rattle.pass_plain.specs.Lineages.{frozen}
use Rattle.pass_plain.specs.Processes.{Process}
use Rattle.pass_plain.specs.Sound.{IsSound}
use Rattle.pass_version.specs.States.{VersionState}
use Rattle.pass_version.specs.declared.versions.Taken.TheVariants as taken
use Rattle.pass_book.specs.Tokens.{BookId, DeskState}
use Rattle.pass_hold.specs.Slips.{taken_records}
use Rattle.pass_proc.specs.Execs.{ExecView, program_records}
use Rattle.pass_proc.specs.Views.{ProcessView, IsProcess, process_of}
use Rattle.pass_proc.proofs.Own.{fitting, version_short}
use Rattle.pass_proc.proofs.Execs.{exec_slip, exec_now, seen_as}
use Rattle.pass_proc.proofs.desk.ProcessDesk.exec.Goals as goal

pub apply-requires-clause-offsets : goal.apply-requires-clause-offsets
apply-requires-clause-offsets g c =
    let i = c.self.inside in
    let v = c.self.invariant in
    fitting g.J.Whose.book.session (process_of i.who i.desk.seen i.holdings i.versions) v.2 (subst (λ (b : BookId). IsSound b.session) v.0 c.seen.ensures.sound)
    (subst (λ (b : BookId). IsLegal b.session i.desk.seen) v.0 c.seen.ensures.legal)

pub begin_version-requires-clause-version : goal.begin_version-requires-clause-version
begin_version-requires-clause-version g c =
    let i = c.self.inside in
    let v = c.self.invariant in
    version_short g.J.Whose.book.session (process_of i.who i.desk.seen i.holdings i.versions) v.2 (subst (λ (b : BookId). IsSound b.session) v.0 c.seen.ensures.sound)
    (subst (λ (b : BookId). IsLegal b.session i.desk.seen) v.0 c.seen.ensures.legal)

pub enter-requires-clause-slip : goal.enter-requires-clause-slip
enter-requires-clause-slip g c =
    let i = c.self.inside in
    let p : ProcessView = process_of i.who i.desk.seen i.holdings i.versions in
    let r = c.room.inside in
    let told = subst (λ (x : ExecView). x.records ≡ program_records (frozen c.args.self.now.lineage).node x.name x.args) (sym c.room.view_is) c.requires.records in
    let records = told ∙ ap (λ (v : ProcessView). program_records (frozen v.lineage).node r.name r.args) (sym c.self.view_is) in
    c.slip_of-slip.ensures ∙ ap (λ (n : Node). taken_records taken.FrozenAndLinked n c.args.source.now r.records.items) c.current-node.ensures
    ∙ exec_slip g.J.Whose.book.session c.args.caller.now.seen p c.args.number c.args.out r.name r.args c.args.source.now c.self.invariant.2
    c.requires.source c.begin_version.new.versions.lineage c.begin_version.ensures.lineage r.records.items records

pub invariant_of-self : goal.invariant_of-self
invariant_of-self g c =
    let S = g.J.Whose.book.session in
    let d = c.enter.ensures.desk in
    let i = c.self.inside in
    let p : ProcessView = process_of i.who i.desk.seen i.holdings i.versions in
    let v : VersionState = c.begin_version.new.versions in
    let low = c.requires.room in
    let spare = ap (λ (p : ProcessView). p.spare) c.self.view_is in
    let count = ap (λ (p : ProcessView). len p.state.children) c.self.view_is in
    let state : c.apply.new.self.state ≡ record i.holdings.state { last_read = [] } = c.apply.ensures.state [] tt in
    let was = c.apply.ensures.room in
    let room : c.apply.new.self.room ≡ i.holdings.room = omega (arith, was) in
    let n = exec_now S c.args.caller.now.seen p c.args.number c.args.out c.room.inside.name c.room.inside.args c.args.source.now c.self.invariant.2 c.requires.source c.enter.new.self.seen c.enter.ensures.entry.entered
    v.lineage c.begin_version.ensures.lineage c.enter.ensures.entry.few (omega (arith, low, spare, count)) v.spare c.begin_version.ensures.spare in (
      ap (λ (d : DeskState). d.book) d ∙ c.self.invariant.0,
      ap (λ (d : DeskState). d.what) d ∙ c.self.invariant.1,
      subst (λ (s : Process). IsProcess S (record p { seen = c.enter.new.desk.seen; state = s; lineage = v.lineage; spare = v.spare; room = c.apply.new.self.room })) (sym state)
          (subst (λ m. IsProcess S (record p { seen = c.enter.new.desk.seen; state = record p.state { last_read = [] }; lineage = v.lineage; spare = v.spare; room = m })) (sym room)
          (subst (λ h. IsProcess S (record p { seen = h; state = record p.state { last_read = [] }; lineage = v.lineage; spare = v.spare })) (sym (ap (λ (d : DeskState). d.seen) d)) n)),
    )

pub returns-clause-state : goal.returns-clause-state
returns-clause-state g c =
    let i = c.self.inside in
    let v : VersionState = c.begin_version.new.versions in
    let seen = ap (λ (d : DeskState). d.seen) c.enter.ensures.desk in
    let state : c.apply.new.self.state ≡ record i.holdings.state { last_read = [] } = c.apply.ensures.state [] tt in
    let was = c.apply.ensures.room in
    let room : c.apply.new.self.room ≡ i.holdings.room = omega (arith, was) in
    let spare : v.spare ≡ i.versions.spare - 1 = c.begin_version.ensures.spare in
    (λ k. seen_as i.who (seen k) (state k) v.lineage (spare k) (room k))
    ∙ ap (λ (p : ProcessView). seen_as p.who c.enter.new.self.seen (record p.state { last_read = [] }) v.lineage (p.spare - 1) p.room) c.self.view_is
