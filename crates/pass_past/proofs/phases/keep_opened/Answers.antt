use Rattle.std.proofs.Common.{◌≡◌, ◌<◌, ◌++◌, ◌∷◌, [], ℕ, ◌+◌, List, length, map, take, get_or, sym, ◌∙◌, ap, subst, arith, append-nil}
use Rattle.std.proofs.lemmas.List.{take_all}
use Rattle.pass_plain.specs.declared.start.StartFile.{StartFile}
use Rattle.pass_leaf.specs.Keeping.{FileVersion}
use Rattle.pass_past.specs.Pasts.{opened_file}
use Rattle.pass_past.specs.Keepings.{IsKeeping, IsHalted}
use Rattle.pass_past.proofs.Goings.{map_front, map_next, stopped_on}
use Rattle.pass_past.proofs.phases.keep_opened.Goals as goal

-- the versions of one file more
file_next : (files items : List StartFile) (i : ℕ) (file : StartFile) (bytes : List ℕ) (done : List FileVersion) → items ≡ files → i < length items → file ≡ get_or items i file → bytes ≡ file.bytes.items
    → (done ++ map opened_file (take i files)) ++ record { node = file.node; bytes = bytes } ∷ [] ≡ done ++ map opened_file (take (i + 1) files)
file_next files items i file bytes done value low at content =
    ap (λ (b : List ℕ). (done ++ map opened_file (take i files)) ++ record { node = file.node; bytes = b } ∷ []) content
    ∙ map_next opened_file done files i file (subst (λ (l : List StartFile). i < length l) value low) (at ∙ ap (λ (l : List StartFile). get_or l i file) value)

pub loop-file-init : goal.loop-file-init
loop-file-init g c = λ first done h. subst (λ (l : List FileVersion). IsKeeping g.A.Disk.view first l c.args.old.now) (sym (append-nil done)) h

pub loop-file-preserved : goal.loop-file-preserved
loop-file-preserved g c = λ first done h.
    let files = c.args.start.now.files.items in
    let i = c.loop-file.file-index in
    let before = done ++ map opened_file (take i files) in
    subst (λ (l : List FileVersion). IsKeeping g.A.Disk.view first l c.keep_next.new.old)
    (file_next files c.deref-file-items.result.now i c.file-item.result c.deref.result.now done c.deref-file-items.ensures.value c.loop-file-test.true c.file-item.is c.deref.ensures.value)
    (c.in_default.ensures.kept first before (c.loop-file.invariant first done h))

pub returns-in-Err-clause-stopped : goal.returns-in-Err-clause-stopped
returns-in-Err-clause-stopped g c = λ first done h.
    let files = c.args.start.now.files.items in
    let i = c.loop-file.file-index in
    let before = done ++ map opened_file (take i files) in
    let more = file_next files c.deref-file-items.result.now i c.file-item.result c.deref.result.now done c.deref-file-items.ensures.value c.loop-file-test.true c.file-item.is c.deref.ensures.value in
    stopped_on g.A.Disk.view first (done ++ map opened_file (take (i + 1) files)) (done ++ map opened_file files) c.keep_next.new.old c.in-Err.fault
    (subst (λ (l : List FileVersion). IsHalted g.A.Disk.view first l c.keep_next.new.old c.in-Err.fault) more (c.in-Err.ensures.stopped first before (c.loop-file.invariant first done h)))
    (map_front opened_file done files (i + 1))

pub returns-clause-kept : goal.returns-clause-kept
returns-clause-kept g c = λ first done h.
    let files = c.args.start.now.files.items in
    let i = c.loop-file.file-index in
    let all : take i files ≡ files = take_all i files (omega (arith, c.loop-file-test.false, ap length c.deref-file-items.ensures.value)) in
    subst (λ (l : List StartFile). IsKeeping g.A.Disk.view first (done ++ map opened_file l) c.loop-file.old) all (c.loop-file.invariant first done h)
