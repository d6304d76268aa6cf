use Rattle.std.proofs.Common.{◌∙◌, subst, List, inl, inr, ⊎_elim}
use Rattle.pass_trace.specs.declared.limits.Scale.TheVariants.{Long}
use Rattle.pass_trace.specs.TraceLines.{objects_of}
use Rattle.pass_trace.specs.declared.trace.TraceLine.{TraceLine}
use Rattle.pass_run.specs.Ends.{IsTrace}
use Rattle.pass_run.specs.Stored.{HasBegun, IsHeldBack, IsOverStore}
use Rattle.pass_cli.specs.Answers.{IsRefused, outcome_of_run}
use Rattle.pass_cli.specs.Drawn.{drawn_bytes}
use Rattle.pass_cli.proofs.DrawnRuns.{still}
use Rattle.pass_cli.proofs.Judging.{ran_run}
use Rattle.pass_cli.proofs.drawing.run_drawn.Goals as goal

pub run_unreported-requires-clause-trace : goal.run_unreported-requires-clause-trace
run_unreported-requires-clause-trace g c = λ _ _.
    let law = c.generated_is_read.ensures in
    let n = c.args.number in
    let l = c.args.lines in
    let trace : IsTrace c.args.trace.now.lines.items = (drawn_bytes n l, law.text Long n l c.requires.lines.0 c.requires.lines.1, c.requires.drawn ∙ law.trace n l c.requires.lines.0 c.requires.lines.1) in trace

pub returns-clause-judged : goal.returns-clause-judged
returns-clause-judged g c = λ known.
    let law = c.generated_is_read.ensures in
    let n = c.args.number in
    let l = c.args.lines in
    let e = c.run_unreported.ensures in
    let r = c.run_unreported.result in (
      e.ended.0,
      ran_run Long g.D.Disk.view (drawn_bytes n l) 0 0 c.args.disk r.disk c.args.trace.now.lines.items (outcome_of_run r) r.status e.ended.0
          (record { unfailed = still; text = law.text Long n l c.requires.lines.0 c.requires.lines.1 }) (c.requires.drawn ∙ law.trace n l c.requires.lines.0 c.requires.lines.1)
          (record {
            disk_fault = λ opened now is. let (before, after, risen) = e.disk_fault opened now is in record { before = before; after = after; risen = risen };
            no_fault = e.no_fault known;
            by_log = e.judged known;
            bad_store = e.bad_store;
            recorded = e.recorded;
            ended = e.ended.1;
          }),
    )

pub returns-clause-recorded : goal.returns-clause-recorded
returns-clause-recorded g c =
    let n = c.args.number in
    let l = c.args.lines in
    let same = c.requires.drawn ∙ c.generated_is_read.ensures.trace n l c.requires.lines.0 c.requires.lines.1 in
    let r = c.run_unreported.result in
    let old = g.D.Disk.view c.args.disk in
    let new = g.D.Disk.view r.disk in
    ⊎_elim (λ (refused : IsRefused old new r.status (outcome_of_run r)). inl (refused.nothing, inl (record { alone = refused.alone; since = refused.since })))
    (⊎_elim (λ (held : IsHeldBack old new c.args.trace.now.lines.items r.status r.list.items r.start r.history.items r.syncs.items).
    inl (held.nothing, inr (subst (λ (ls : List TraceLine). HasBegun old new (objects_of ls)) same held.begun)))
    (λ (over : IsOverStore old.calls old new c.args.trace.now.lines.items r.list.items r.start r.history.items r.syncs.items).
    inr (subst (λ (ls : List TraceLine). IsOverStore old.calls old new ls r.list.items r.start r.history.items r.syncs.items) same over)))
    c.run_unreported.ensures.recorded
