use Rattle.std.proofs.Common.{ap, sym, ◌∙◌, subst}
use Rattle.std.specs.Prelude.{slice_get}
use Rattle.pass_proc.specs.Procs.{ProcView}
use Rattle.pass_answer.specs.Lives.{HasExited}
use Rattle.pass_lives.specs.Exits.{ExitingView}
use Rattle.pass_lives.proofs.ExitSteps.{exit_own, finish_allows, exited, has_left}
use Rattle.pass_lives.proofs.exiting.end_exit.Goals as goal

pub finish-requires-clause-own : goal.finish-requires-clause-own
finish-requires-clause-own g c = exit_own c.exiting.invariant.0

pub finish-requires-clause-last : goal.finish-requires-clause-last
finish-requires-clause-last g c = c.requires.living ∙ sym (ap (λ (v : ExitingView). v.before.who) c.exiting.view_is) ∙ sym c.exiting.invariant.0.who

pub finish-requires-clause-allows : goal.finish-requires-clause-allows
finish-requires-clause-allows g c = finish_allows (has_left c.exiting.invariant.0 (ap (λ (v : ExitingView). slice_get v.rest 0) c.exiting.view_is ∙ c.requires.left))

pub returns-clause-call : goal.returns-clause-call
returns-clause-call g c =
    let is = has_left c.exiting.invariant.0 (ap (λ (v : ExitingView). slice_get v.rest 0) c.exiting.view_is ∙ c.requires.left) in
    let e = c.finish in
    subst (λ (before : ProcView). HasExited g.J.Whose.book.session before e.result.2.seen e.result.0) (ap (λ (v : ExitingView). v.before) c.exiting.view_is)
    (exited is e.result.0 e.ensures.place e.ensures.entered)
