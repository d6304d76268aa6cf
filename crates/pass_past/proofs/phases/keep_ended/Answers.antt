use Rattle.std.proofs.Common.{◌++◌, ◌+◌, List, take, refl, sym, subst, arith, append-nil}
use Rattle.std.proofs.lemmas.List.{take_all}
use Rattle.pass_entry.specs.declared.entry.Entry.{Entry}
use Rattle.pass_plain.specs.Legal.{session_of}
use Rattle.pass_leaf.specs.declared.fault.OldFault.TheVariants as faults
use Rattle.pass_leaf.specs.Keeping.{FileVersion}
use Rattle.pass_past.specs.Pasts.{ended_versions}
use Rattle.pass_past.specs.Keepings.{IsKeeping}
use Rattle.pass_past.specs.Walks.{IsWalked}
use Rattle.pass_past.proofs.Goings.{kept_stops, begins_more, ended_begins, stopped_on}
use Rattle.pass_past.proofs.phases.keep_ended.Goals as goal

pub returns-in-Err-clause-stopped : goal.returns-in-Err-clause-stopped
returns-in-Err-clause-stopped g c = λ first done h.
    let all = ended_versions (session_of c.args.start.now 0) c.args.history.now in
    kept_stops g.A.Disk.view first done (done ++ all) c.args.old.now faults.NoMemory h (begins_more done all) refl

pub loop-place-init : goal.loop-place-init
loop-place-init g c = record {
  walked = c.in-Ok.ensures;
  kept = λ first done h. subst (λ (l : List FileVersion). IsKeeping g.A.Disk.view first l c.args.old.now) (sym (append-nil done)) h;
}

pub loop-place-preserved : goal.loop-place-preserved
loop-place-preserved g c = record {
  walked = c.in_default.ensures.walked;
  kept = λ first done h. c.in_default.ensures.kept first done (c.loop-place.invariant.kept first done h);
}

pub returns-in-Err-keep_at-clause-stopped : goal.returns-in-Err-keep_at-clause-stopped
returns-in-Err-keep_at-clause-stopped g c = λ first done h.
    let s = session_of c.args.start.now 0 in
    let history = c.args.history.now in
    let place = c.loop-place.place in
    stopped_on g.A.Disk.view first (done ++ ended_versions s (take (place + 1) history)) (done ++ ended_versions s history) c.keep_at.new.old c.in-Err-keep_at.fault
    (c.in-Err-keep_at.ensures.stopped first done (c.loop-place.invariant.kept first done h)) (ended_begins s history (place + 1) done)

pub returns-clause-walked : goal.returns-clause-walked
returns-clause-walked g c =
    let history = c.args.history.now in
    let place = c.loop-place.place in
    subst (λ (h : List Entry). IsWalked c.args.start.now h c.loop-place.walked) (take_all place history (omega arith)) c.loop-place.invariant.walked

pub returns-clause-kept : goal.returns-clause-kept
returns-clause-kept g c = λ first done h.
    let history = c.args.history.now in
    let place = c.loop-place.place in
    subst (λ (l : List Entry). IsKeeping g.A.Disk.view first (done ++ ended_versions (session_of c.args.start.now 0) l) c.loop-place.old) (take_all place history (omega arith)) (c.loop-place.invariant.kept first done h)
