use Rattle.std.proofs.Common.{◌≡◌, ◌⊎◌, ◌∙◌, sym, subst, inl, ⊎_elim}
use Rattle.pass_trace.specs.declared.limits.Scale.TheVariants.{Long}
use Rattle.pass_status.specs.declared.status.Status.{Status}
use Rattle.pass_status.specs.declared.status.Status.TheVariants as status
use Rattle.pass_run.specs.Stored.{IsBackedBy, IsLater}
use Rattle.pass_run.proofs.Moved.{none_backed}
use Rattle.pass_cli.specs.Answers.{Outcome, HasRun, IsUnrecorded, IsRecorded, outcome_of_run}
use Rattle.pass_cli.specs.Drawn.{IsTold, drawn_bytes}
use Rattle.pass_cli.proofs.DrawnRuns.{drawn_run, still}
use Rattle.pass_cli.proofs.Judging.{no_write, still_unwritten}
use Rattle.pass_cli.proofs.drawing.judge_drawn.Goals as goal

pub returns-in-Ok-clause-judged : goal.returns-in-Ok-clause-judged
returns-in-Ok-clause-judged g c = λ known.
    let view = g.D.Disk.view in
    let n = c.args.number in
    let l = c.args.lines in
    let r = c.run_drawn-ended.result in
    let t = c.told.ensures in
    let end = c.told.result in
    let status_is : end.status ≡ r.status = ⊎_elim (λ starved. absurd (known starved)) (λ (s : end.status ≡ r.status). s) t.status in
    let (report, ran) = c.run_drawn-ended.ensures.judged (λ is. known (status_is ∙ is)) in
    let with_status = subst (λ (s : Status). HasRun view Long (drawn_bytes n l) 0 0 c.args.disk r.disk (outcome_of_run r) s report) (sym status_is) ran in
    let with_out = subst (λ (o : Outcome). HasRun view Long (drawn_bytes n l) 0 0 c.args.disk r.disk o end.status report) (sym t.outcome) with_status in
    let with_disk = subst (λ d. HasRun view Long (drawn_bytes n l) 0 0 c.args.disk d (outcome_of_run end) end.status report) (sym t.disk) with_out in
    drawn_run view n l c.requires.lines.0 c.args.disk end.disk (outcome_of_run end) end.status report with_disk
    (c.generated_is_read.ensures.trace n l c.requires.lines.0 c.requires.lines.1) c.ends.ensures.never
    (record { unfailed = still; text = c.generated_is_read.ensures.text Long n l c.requires.lines.0 c.requires.lines.1 }) end.report.items
    (λ done. subst (λ (o : Outcome). IsTold n l o.history end.report.items) (sym t.outcome) (t.text done))

pub returns-in-Ok-clause-recorded : goal.returns-in-Ok-clause-recorded
returns-in-Ok-clause-recorded g c =
    let view = g.D.Disk.view in
    let bytes = drawn_bytes c.args.number c.args.lines in
    let t = c.told.ensures in
    let end = c.told.result in
    let r = c.run_drawn-ended.result in
    subst (λ d. IsUnrecorded (view c.args.disk) (view d) bytes (outcome_of_run end) ⊎ IsRecorded (view c.args.disk) (view d) bytes (outcome_of_run end)) (sym t.disk)
    (subst (λ (o : Outcome). IsUnrecorded (view c.args.disk) (view r.disk) bytes o ⊎ IsRecorded (view c.args.disk) (view r.disk) bytes o) (sym t.outcome) c.run_drawn-ended.ensures.recorded)

pub returns-in-Ok-clause-backed : goal.returns-in-Ok-clause-backed
returns-in-Ok-clause-backed g c = subst (λ (o : Outcome). IsBackedBy o.history o.syncs) (sym c.told.ensures.outcome) c.run_drawn-ended.ensures.backed

pub returns-in-Ok-clause-later : goal.returns-in-Ok-clause-later
returns-in-Ok-clause-later g c = subst (λ d. IsLater (g.D.Disk.view c.args.disk) (g.D.Disk.view d)) (sym c.told.ensures.disk) c.run_drawn-ended.ensures.later

pub returns-in-Ok-clause-no_write : goal.returns-in-Ok-clause-no_write
returns-in-Ok-clause-no_write g c = λ is.
    let answer = returns-in-Ok-clause-judged g c (λ starved. let z : status.WriteFault ≡ status.NoMemory = sym is ∙ starved in cc) in
    no_write c.told.result.status answer.by.by.no_other is

pub returns-in-Err-clause-judged : goal.returns-in-Err-clause-judged
returns-in-Err-clause-judged g c = λ known. absurd (known c.unopened.ensures.status)

pub returns-in-Err-clause-recorded : goal.returns-in-Err-clause-recorded
returns-in-Err-clause-recorded g c =
    let e = c.unopened.ensures in
    let view = g.D.Disk.view in
    inl (
      record { no_list = e.list; no_start = e.start; no_history = e.history; no_syncs = e.syncs },
      inl (still_unwritten view c.args.disk c.unopened.result.disk e.disk),
    )

pub returns-in-Err-clause-backed : goal.returns-in-Err-clause-backed
returns-in-Err-clause-backed g c = none_backed c.unopened.result.history.items c.unopened.result.syncs.items c.unopened.ensures.history

pub returns-in-Err-clause-no_write : goal.returns-in-Err-clause-no_write
returns-in-Err-clause-no_write g c = λ is. let z : status.NoMemory ≡ status.WriteFault = sym c.unopened.ensures.status ∙ is in cc
