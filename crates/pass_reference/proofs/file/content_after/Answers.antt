use Rattle.std.proofs.Common.{◌≡◌, ◌+◌, ap, sym, ◌∙◌, take, cond, ℕ}
use Rattle.std.proofs.Common.{Vec, Global}
use Rattle.pass_plain.specs.Files.{file_act}
use Rattle.pass_plain.specs.Histories.{is_own}
use Rattle.pass_plain.specs.Recording.{bytes_after}
use Rattle.pass_plain.proofs.Replays.{take-next}
use Rattle.pass_reference.proofs.States.{bytes_next}
use Rattle.pass_reference.proofs.file.content_after.Goals as goal
use Rattle.pass_reference.proofs.file.content_after.Goals.{then-is_own+in_ok-apply, else-is_own}

pub loop-i-preserved : goal.loop-i-preserved
loop-i-preserved c =
    let h = c.args.history.now in
    let start = c.args.start.now in
    let object = c.args.object in
    let e = c.index-history-i.result in
    let before = bytes_after start (take c.loop-i.i h) object in
    let next : bytes_after start (take (c.loop-i.i + 1) h) object ≡ cond (is_own object e) (file_act before e.act) before =
    ap (λ h. bytes_after start h object) (take-next h c.loop-i.i e c.loop-i-test.true c.index-history-i.is) ∙ bytes_next start (take c.loop-i.i h) e object in
    elim c.if-is_own.branch [
      | then-is_own+in_ok-apply w ↦
          ap (λ (v : Vec ℕ Global). v.items) w.content-is ∙ w.in_ok-apply.ensures ∙ ap (λ bytes. file_act bytes e.act) c.loop-i.invariant
          ∙ sym (next ∙ ap (λ b. cond b (file_act before e.act) before) (sym c.is_own.ensures ∙ w.if-is_own.true))
      | else-is_own w ↦
          ap (λ (v : Vec ℕ Global). v.items) w.content-is ∙ c.loop-i.invariant
          ∙ sym (next ∙ ap (λ b. cond b (file_act before e.act) before) (sym c.is_own.ensures ∙ w.if-is_own.false))
    ]
