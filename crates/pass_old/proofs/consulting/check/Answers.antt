use Rattle.std.proofs.Common.{◌∙◌, ℕ, refl, ap}
use Rattle.std.specs.Prelude.{Vec}
use Rattle.std.specs.declared.alloc.Global.{Global}
use Rattle.pass_audit.specs.Audits.{all_judged, audit_text}
use Rattle.pass_old.specs.declared.words.LogQuestion.TheVariants.{Check}
use Rattle.pass_old.proofs.Consulted.{both_done, both_starved}
use Rattle.pass_old.proofs.consulting.check.Goals as goal

pub returns-in-Ok : goal.returns-in-Ok
returns-in-Ok c =
    both_done c.args.index.now c.args.leaves.now Check c.done.result.status c.done.result.text.items (audit_text (all_judged c.args.index.now c.args.leaves.now)) c.done.ensures.status
    (c.done.ensures.text ∙ ap (λ (v : Vec ℕ Global). v.items) c.into_bytes.ensures.value ∙ c.in-Ok.ensures) refl

pub returns-in-Err : goal.returns-in-Err
returns-in-Err c = both_starved c.args.index.now c.args.leaves.now Check c.refused.result.status c.refused.result.text.items c.refused.ensures.status
