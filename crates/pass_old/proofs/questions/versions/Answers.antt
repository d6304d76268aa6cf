use Rattle.std.proofs.Common.{◌∙◌, ℕ, refl, ap}
use Rattle.std.specs.Prelude.{Vec}
use Rattle.std.specs.declared.alloc.Global.{Global}
use Rattle.pass_old.specs.declared.words.OldQuestion.TheVariants.{Versions}
use Rattle.pass_old.specs.Listings.{version_lines}
use Rattle.pass_old.proofs.Telling.{told_done, told_starved}
use Rattle.pass_old.proofs.questions.versions.Goals as goal

pub returns-in-Ok : goal.returns-in-Ok
returns-in-Ok c =
    told_done c.args.leaves.now (Versions c.args.file) c.done.result.status c.done.result.text.items (version_lines c.args.leaves.now c.args.file) c.done.ensures.status
    (c.done.ensures.text ∙ ap (λ (v : Vec ℕ Global). v.items) c.into_bytes.ensures.value ∙ c.in-Ok.ensures ∙ ap (λ l. version_lines l c.args.file) c.list.ensures.list) refl

pub returns-in-Err : goal.returns-in-Err
returns-in-Err c = told_starved c.args.leaves.now (Versions c.args.file) c.refused.result.status c.refused.result.text.items c.refused.ensures.status
