use Rattle.std.proofs.Common.{◌∙◌, refl, ap}
use Rattle.std.specs.Prelude.{Err}
use Rattle.pass_old.specs.declared.words.OldQuestion.TheVariants.{Cat}
use Rattle.pass_old.proofs.Telling.{told_done, told_refused}
use Rattle.pass_old.proofs.questions.cat.Goals as goal

pub returns-in-Ok : goal.returns-in-Ok
returns-in-Ok c = told_done c.args.leaves.now (Cat c.args.node.now) c.done.result.status c.done.result.text.items c.in-Ok.bytes.items c.done.ensures.status c.done.ensures.text c.in-Ok.ensures.bytes

pub returns-in-Err : goal.returns-in-Err
returns-in-Err c =
    told_refused c.args.leaves.now (Cat c.args.node.now) c.args.node.now c.refused.result.status c.refused.result.text.items c.in-Err.fault (c.refused.ensures.status ∙ c.archive_status.ensures) c.in-Err.ensures.fault
    (λ is. (refl, c.in-Err.ensures.none.0 (ap (λ x. Err x) is)))
