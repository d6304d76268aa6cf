use Rattle.std.proofs.Common.{◌+◌, sym, ◌∙◌, subst, arith}
use Rattle.pass_proc.specs.Procs.{ProcView}
use Rattle.pass_proc.proofs.Steps.{number_fits}
use Rattle.pass_lives.specs.Exits.{IsExiting}
use Rattle.pass_lives.specs.Pipes.{pipes_from}
use Rattle.pass_lives.proofs.ExitSteps.{exit_begins}
use Rattle.pass_lives.proofs.exiting.begin_exit.Goals as goal

pub overflow_add-result : goal.overflow_add-result
overflow_add-result g c = let i = c.proc.inside in number_fits g.J.Whose.book.session i.process i.number i.caller c.proc.invariant.0

pub invariant_of-result : goal.invariant_of-result
invariant_of-result g c =
    let S = g.J.Whose.book.session in
    let i = c.proc.inside in (
      subst (λ (b : ProcView). IsExiting S b (i.number + 1) i.process i.caller (pipes_from i.process.state.descriptors 0)) (c.proc.view_is ∙ sym c.of-before.ensures)
          (exit_begins S i.process i.number i.caller i.way c.proc.invariant.0),
      omega arith,
    )
