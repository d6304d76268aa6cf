use Rattle.std.proofs.Common.{◌≡◌, ◌≤◌, ◌-◌, ◌∙◌, ◌++◌, ◌∷◌, [], ℕ, List, length, take, drop, ap, subst, arith}
use Rattle.std.specs.Prelude.{IsTrue}
use Rattle.std.proofs.lemmas.List.{take_rest, drop-append-le}
use Rattle.pass_entry.specs.declared.record.Record.{Record}
use Rattle.pass_outside.specs.Areas.{Image}
use Rattle.pass_outside.specs.Moments.{Adds}
use Rattle.pass_log.specs.Log.{log_end, IsOldOrMore, IsFrameOf}
use Rattle.pass_log.specs.Records.{image_of, with_batch}
use Rattle.pass_standby.specs.Standing.{staged_of}
use Rattle.pass_standby.proofs.following.Following.append.Goals as goal

-- what is written first is all but the gate
frame_is : (begun pushed bytes : List ℕ) → bytes ≡ pushed → pushed ≡ begun ++ 0 ∷ [] → 1 ≤ length begun → take (length bytes - 1) (drop 1 bytes) ≡ staged_of begun
frame_is begun pushed bytes same is some = take_rest bytes 1 ∙ ap (drop 1) (same ∙ is) ∙ drop-append-le 1 begun (0 ∷ []) some

pub returns-in-Err-clause-any_moment : goal.returns-in-Err-clause-any_moment
returns-in-Err-clause-any_moment g c =
    let old = c.args.self.now in
    subst
    (λ (l : List ℕ). (batch : List Record) → IsFrameOf batch l → IsTrue (g.D.Disk.view old.disk).tells
    → Adds (g.D.Disk.view old.disk) (g.D.Disk.view c.append_frame.new.disk) (λ i. IsOldOrMore batch l (log_end old.log) (g.D.Disk.view old.disk).seen.log i.log))
    (frame_is old.begun.items c.push.new.self.items c.deref.result.now c.deref.ensures.value c.in_ok-push.ensures.items (omega (arith, c.requires.some))) c.append_frame.ensures.frame_moment

pub returns-clause-leaves : goal.returns-clause-leaves
returns-clause-leaves g c =
    let old = c.args.self.now in
    subst
    (λ (l : List ℕ). (batch : List Record) → IsFrameOf batch l → IsTrue (g.D.Disk.view old.disk).tells → (i : Image) → (g.D.Disk.view c.append_frame.new.disk).may_leave i
    → image_of i.log ≡ with_batch batch (image_of (g.D.Disk.view old.disk).seen.log))
    (frame_is old.begun.items c.push.new.self.items c.deref.result.now c.deref.ensures.value c.in_ok-push.ensures.items (omega (arith, c.requires.some))) c.in_default.ensures.acknowledged

pub returns-clause-reads : goal.returns-clause-reads
returns-clause-reads g c =
    let old = c.args.self.now in
    subst
    (λ (l : List ℕ). (batch : List Record) → IsFrameOf batch l → IsTrue (g.D.Disk.view old.disk).tells
    → image_of (g.D.Disk.view c.append_frame.new.disk).seen.log ≡ with_batch batch (image_of (g.D.Disk.view old.disk).seen.log))
    (frame_is old.begun.items c.push.new.self.items c.deref.result.now c.deref.ensures.value c.in_ok-push.ensures.items (omega (arith, c.requires.some))) c.in_default.ensures.reads

pub returns-clause-any_moment : goal.returns-clause-any_moment
returns-clause-any_moment g c =
    let old = c.args.self.now in
    subst
    (λ (l : List ℕ). (batch : List Record) → IsFrameOf batch l → IsTrue (g.D.Disk.view old.disk).tells
    → Adds (g.D.Disk.view old.disk) (g.D.Disk.view c.append_frame.new.disk) (λ i. IsOldOrMore batch l (log_end old.log) (g.D.Disk.view old.disk).seen.log i.log))
    (frame_is old.begun.items c.push.new.self.items c.deref.result.now c.deref.ensures.value c.in_ok-push.ensures.items (omega (arith, c.requires.some))) c.append_frame.ensures.frame_moment
