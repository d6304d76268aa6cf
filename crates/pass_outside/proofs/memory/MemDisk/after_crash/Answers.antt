use Rattle.std.proofs.Common.{◌≡◌, List, [], Result, Ok, Err, IfOk, sym, subst, ap, ◌∙◌}
use Rattle.pass_outside.specs.declared.change.Event.{Event}
use Rattle.pass_outside.specs.declared.memory.MemDisk.{MemDisk}
use Rattle.pass_outside.specs.Areas.{Image}
use Rattle.pass_outside.specs.History.{beginning, after_all}
use Rattle.pass_outside.specs.Keeping.{kept_all}
use Rattle.pass_outside.specs.Memory.{memory_view}
use Rattle.pass_outside.proofs.Kept.{kept_may}
use Rattle.pass_outside.proofs.memory.MemDisk.after_crash.Goals as goal

-- a disk with no changes reads what it began with
reads_first : {E : Type 0} (r : Result MemDisk E) (P : Image → Type 0) (i : Image) → P i → IfOk r (λ d. d.first ≡ i) → IfOk r (λ d. d.changes.items ≡ []) → IfOk r (λ d. P (memory_view d).seen)
reads_first (Ok d) P i h first none = subst P (sym (ap (λ (es : List Event). (after_all (beginning d.first) es).seen) none ∙ first)) h
reads_first (Err e) P i h first none = tt

pub returns-clause-image : goal.returns-clause-image
returns-clause-image c =
    let d = c.args.self in
    let kept : c.keep_all.new.areas ≡ kept_all c.args.keep d.first d.changes.items = c.in_ok-keep_all.ensures ∙ ap (kept_all c.args.keep d.first) c.deref.ensures.value in
    reads_first c.begin.result (memory_view d).may_leave c.keep_all.new.areas (subst (memory_view d).may_leave (sym kept) (kept_may c.args.keep d.first d.changes.items)) c.begin.ensures.first c.begin.ensures.changes
