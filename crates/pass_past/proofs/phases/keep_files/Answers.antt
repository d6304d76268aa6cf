use Rattle.std.proofs.Common.{◌++◌, ℕ, ◌+◌, List, map, take, sym, subst, arith, append-nil}
use Rattle.std.proofs.lemmas.List.{take_all}
use Rattle.pass_plain.specs.Legal.{session_of}
use Rattle.pass_leaf.specs.Keeping.{FileVersion}
use Rattle.pass_past.specs.Pasts.{version_of}
use Rattle.pass_past.specs.Keepings.{IsKeeping, IsHalted}
use Rattle.pass_past.proofs.Goings.{map_front, map_next, stopped_on}
use Rattle.pass_past.proofs.phases.keep_files.Goals as goal

pub loop-file-init : goal.loop-file-init
loop-file-init g c = λ first done history is h. subst (λ (l : List FileVersion). IsKeeping g.A.Disk.view first l c.args.old.now) (sym (append-nil done)) h

pub loop-file-preserved : goal.loop-file-preserved
loop-file-preserved g c = λ first done history is h.
    let f = version_of (session_of c.args.start.now 0) history in
    let i = c.loop-file.file-index in
    subst (λ (l : List FileVersion). IsKeeping g.A.Disk.view first l c.keep_current_of.new.old)
    (map_next f done c.args.files.now i c.file-item.result c.loop-file-test.true c.file-item.is)
    (c.in_default.ensures.kept first (done ++ map f (take i c.args.files.now)) history is (c.loop-file.invariant first done history is h))

pub returns-in-Err-clause-stopped : goal.returns-in-Err-clause-stopped
returns-in-Err-clause-stopped g c = λ first done history is h.
    let f = version_of (session_of c.args.start.now 0) history in
    let i = c.loop-file.file-index in
    let files = c.args.files.now in
    stopped_on g.A.Disk.view first (done ++ map f (take (i + 1) files)) (done ++ map f files) c.keep_current_of.new.old c.in-Err.fault
    (subst (λ (l : List FileVersion). IsHalted g.A.Disk.view first l c.keep_current_of.new.old c.in-Err.fault) (map_next f done files i c.file-item.result c.loop-file-test.true c.file-item.is)
    (c.in-Err.ensures.stopped first (done ++ map f (take i files)) history is (c.loop-file.invariant first done history is h)))
    (map_front f done files (i + 1))

pub returns-clause-kept : goal.returns-clause-kept
returns-clause-kept g c = λ first done history is h.
    let f = version_of (session_of c.args.start.now 0) history in
    let i = c.loop-file.file-index in
    let files = c.args.files.now in
    subst (λ (l : List ℕ). IsKeeping g.A.Disk.view first (done ++ map f l) c.loop-file.old) (take_all i files (omega (arith, c.loop-file-test.false))) (c.loop-file.invariant first done history is h)
