use Rattle.std.proofs.Common.{◌≡◌, ◌∙◌, inl, inr, sym, ap, subst, arith}
use Rattle.pass_trace.specs.declared.limits.Scale.TheVariants.{Usual}
use Rattle.pass_entry.proofs.Variants.{err_inside}
use Rattle.pass_status.specs.declared.status.Status.{Status}
use Rattle.pass_status.specs.declared.status.Status.TheVariants as status
use Rattle.pass_run.specs.Ends.{IsTrace}
use Rattle.pass_cli.specs.Answers.{IsRefusal}
use Rattle.pass_leaf.specs.declared.fault.OldFault.TheVariants as faults
use Rattle.pass_old.specs.declared.status.OldStatus.TheVariants as old_status
use Rattle.pass_old.proofs.Texts.{inside}
use Rattle.pass_old.proofs.Steps.{unopened_node, unopened_as, later_at, later_work, later_both, later_as}
use Rattle.pass_old.proofs.running.judge_run.Goals as goal

pub returns-in-Err-clause-run : goal.returns-in-Err-clause-run
returns-in-Err-clause-run g c =
    let (bytes, told, refusal) = c.in-Err.ensures.read in
    let e = c.unrun.ensures in
    (bytes, told, inl ((e.history, e.start), record { refusal = c.in-Err.status; is = e.status; cause = refusal; disk = e.disk; archive_is = e.archive }))

pub returns-in-Err-clause-no_write : goal.returns-in-Err-clause-no_write
returns-in-Err-clause-no_write g c = λ is.
    let (bytes, told, refusal) = c.in-Err.ensures.read in
    subst (λ (s : Status). IsRefusal Usual bytes (g.S.Source.fault_count c.args.source.now) (g.S.Source.fault_count c.read_trace.new.source) s)
    (inside c.in-Err.status status.WriteFault (sym c.unrun.ensures.status ∙ is)) refusal

pub returns-in-Err-clause-stops : goal.returns-in-Err-clause-stops
returns-in-Err-clause-stops g c = λ tells known. c.in-Err.ensures.stops tells (λ is. known (c.unrun.ensures.status ∙ ap (λ (s : Status). old_status.Same s) (err_inside _ _ is)))

pub returns-in-Err-clause-later : goal.returns-in-Err-clause-later
returns-in-Err-clause-later g c = later_at g.D.Disk.view c.args.disk c.unrun.result.disk c.unrun.ensures.disk

pub returns-in-Err-clause-archive_later : goal.returns-in-Err-clause-archive_later
returns-in-Err-clause-archive_later g c = later_at g.A.Disk.view c.args.archive c.unrun.result.archive c.unrun.ensures.archive

pub run_kept-requires-clause-trace : goal.run_kept-requires-clause-trace
run_kept-requires-clause-trace g c = λ _ _.
    let (bytes, told, (traced, same)) = c.in-Ok.ensures.read in
    let trace : IsTrace c.in-Ok.trace.lines.items = (bytes, c.scales.ensures Usual bytes traced.text, same) in
    trace

pub run_kept-requires-clause-healthy : goal.run_kept-requires-clause-healthy
run_kept-requires-clause-healthy g c = omega (arith, c.in-Ok-open.ensures.opened)

pub returns-in-Ok-open-clause-run : goal.returns-in-Ok-open-clause-run
returns-in-Ok-open-clause-run g c =
    let (bytes, told, (traced, same)) = c.in-Ok.ensures.read in
    let e = c.in-Ok-open.ensures in (
      bytes,
      told,
      inr (inr (record {
        traced = traced;
        first = c.in-Ok-open.old;
        opened = record { leaves = e.leaves; none_gathered = e.gathered; counted = e.opened; work = e.work; moments = e.any_moment; store = e.store };
        run = c.run_kept.ensures.run bytes _ _ traced same;
      })),
    )

pub returns-in-Ok-open-clause-archive_later : goal.returns-in-Ok-open-clause-archive_later
returns-in-Ok-open-clause-archive_later g c =
    let view = g.A.Disk.view in
    let old = c.in-Ok-open.old in
    later_both (view c.args.archive) (view old.disk) (view c.run_kept.result.archive) (later_work (view c.args.archive) (view old.disk) ⊥ c.in-Ok-open.ensures.work) c.run_kept.ensures.archive_later

pub unread-requires : goal.unread-requires
unread-requires g c = unopened_node (g.A.Disk.view c.args.archive) c.in-Err-open.fault c.in-Err-open.ensures.cause

pub returns-clause-run : goal.returns-clause-run
returns-clause-run g c =
    let (bytes, told, (traced, same)) = c.in-Ok.ensures.read in
    let view = g.A.Disk.view in
    let e = c.in-Err-open.ensures in
    let u = c.unrun-in-Err-open.ensures in (
      bytes,
      told,
      inr (inl (
        (u.history, u.start),
        record {
          traced = traced;
          fault = c.in-Err-open.fault;
          is = λ node. u.status ∙ c.unread.ensures.status node;
          unopened = unopened_as view c.args.archive c.in-Err-open.archive c.unrun-in-Err-open.result.archive c.in-Err-open.fault u.archive
              (record { cause = e.cause; reads = e.refused; crash = e.refused_crash; alone = e.refused_moment; work = e.failed_work; moments = e.failed_moment; store = e.failed_store });
          disk = u.disk;
        },
      )),
    )

pub returns-clause-later : goal.returns-clause-later
returns-clause-later g c = later_at g.D.Disk.view c.args.disk c.unrun-in-Err-open.result.disk c.unrun-in-Err-open.ensures.disk

pub returns-clause-archive_later : goal.returns-clause-archive_later
returns-clause-archive_later g c =
    let view = g.A.Disk.view in
    later_as view c.args.archive c.in-Err-open.archive c.unrun-in-Err-open.result.archive c.unrun-in-Err-open.ensures.archive
    (later_work (view c.args.archive) (view c.in-Err-open.archive) (c.in-Err-open.fault ≡ faults.DiskFault) c.in-Err-open.ensures.failed_work)

pub returns-clause-no_write : goal.returns-clause-no_write
returns-clause-no_write g c = λ is. c.unread.ensures.no_write (sym c.unrun-in-Err-open.ensures.status ∙ is)

pub returns-in-Ok-open-clause-stops : goal.returns-in-Ok-open-clause-stops
returns-in-Ok-open-clause-stops g c = λ tells known. c.in-Ok.ensures.stops tells (λ is. absurd (cc is))

pub returns-clause-stops : goal.returns-clause-stops
returns-clause-stops g c = λ tells known. c.in-Ok.ensures.stops tells (λ is. absurd (cc is))
