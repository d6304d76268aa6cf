use Rattle.std.proofs.Common.{◌≡◌, ap, sym, ◌∙◌, subst, []}
use Rattle.pass_entry.specs.declared.entry.Entry.{Entry}
use Rattle.pass_plain.specs.Legal.{IsLegal}
use Rattle.pass_plain.specs.Processes.{Process, process_act}
use Rattle.pass_plain.specs.Sound.{IsSound}
use Rattle.pass_plain.specs.Versions.{nodes_of, source_in}
use Rattle.pass_book.specs.Tokens.{BookId, DeskState}
use Rattle.pass_proc.specs.Views.{ProcessView, IsProcess, process_of}
use Rattle.pass_proc.proofs.Own.{quiet_plain, no_records, fitting, quiet_now}
use Rattle.pass_proc.proofs.desk.ProcessDesk.enter_quiet.Goals as goal

pub apply-requires-clause-offsets : goal.apply-requires-clause-offsets
apply-requires-clause-offsets g c =
    let i = c.self.inside in
    let v = c.self.invariant in
    fitting g.J.Whose.book.session (process_of i.who i.desk.seen i.holdings i.versions) v.2 (subst (λ (b : BookId). IsSound b.session) v.0 c.seen.ensures.sound)
    (subst (λ (b : BookId). IsLegal b.session i.desk.seen) v.0 c.seen.ensures.legal)

pub enter-requires-clause-slip : goal.enter-requires-clause-slip
enter-requires-clause-slip g c =
    let S = g.J.Whose.book.session in
    c.new.ensures ∙ no_records S c.self.inside.desk.seen (source_in (nodes_of S c.args.caller.now.seen) c.args.entry) c.args.entry c.requires.done (quiet_plain c.args.entry.act c.requires.act)

pub invariant_of-self : goal.invariant_of-self
invariant_of-self g c =
    let S = g.J.Whose.book.session in
    let d = c.enter.ensures.desk in
    let i = c.self.inside in
    let e : Entry = c.args.entry in
    let p : ProcessView = process_of i.who i.desk.seen i.holdings i.versions in
    let own : e.what ≡ i.who = c.requires.own.1 ∙ sym (ap (λ (p : ProcessView). p.who) c.self.view_is) in
    let n = quiet_now S c.args.caller.now.seen c.enter.new.self.seen p c.self.invariant.2 e c.requires.done own c.enter.ensures.entry.entered c.requires.act c.enter.ensures.entry.few c.apply.new.self.room in
    let state : c.apply.new.self.state ≡ process_act [] i.holdings.state e.act = c.apply.ensures.state [] ((quiet_plain e.act c.requires.act).gains [] []) in (
      ap (λ (d : DeskState). d.book) d ∙ c.self.invariant.0,
      ap (λ (d : DeskState). d.what) d ∙ c.self.invariant.1,
      subst (λ (s : Process). IsProcess S (record p { seen = c.enter.new.desk.seen; state = s; room = c.apply.new.self.room })) (sym state)
          (subst (λ h. IsProcess S (record p { seen = h; state = process_act [] p.state e.act; room = c.apply.new.self.room })) (sym (ap (λ (d : DeskState). d.seen) d)) n),
    )
