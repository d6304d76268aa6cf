use Rattle.std.proofs.Common.{ap, ◌∙◌}
use Rattle.std.specs.Prelude.{drop, slice_get}
use Rattle.pass_lives.specs.Exits.{ExitingView}
use Rattle.pass_lives.specs.Pipes.{pipes_from}
use Rattle.pass_lives.proofs.ExitSteps.{ahead, exit_own, leave_allows, left_on}
use Rattle.pass_lives.proofs.PipeLists.{shorter}
use Rattle.pass_lives.proofs.exiting.leave.Goals as goal

pub leave_by_exit-requires-clause-place : goal.leave_by_exit-requires-clause-place
leave_by_exit-requires-clause-place g c = exit_own c.exiting.invariant.0

pub leave_by_exit-requires-clause-allows : goal.leave_by_exit-requires-clause-allows
leave_by_exit-requires-clause-allows g c =
    let next = ap (λ (v : ExitingView). slice_get v.rest 0) c.exiting.view_is ∙ c.requires.next in
    let is = ahead c.exiting.invariant.0 c.args.d.now next (pipes_from c.exiting.inside.process.state.descriptors c.after_pipe-rest.result) c.after_pipe-rest.ensures.rest in
    leave_allows is c.requires.pipe c.pnode-who.ensures c.end_of.ensures

pub invariant_of-exiting : goal.invariant_of-exiting
invariant_of-exiting g c =
    let next = ap (λ (v : ExitingView). slice_get v.rest 0) c.exiting.view_is ∙ c.requires.next in
    let is = ahead c.exiting.invariant.0 c.args.d.now next (pipes_from c.exiting.inside.process.state.descriptors c.after_pipe-rest.result) c.after_pipe-rest.ensures.rest in
    let e = c.leave_by_exit in (
      left_on is c.requires.pipe c.pnode-who.ensures c.end_of.ensures e.new.caller e.ensures.entry.caller e.ensures.entry.entered e.ensures.entry.few,
      c.after_pipe-rest.ensures.low,
    )

pub returns-clause-fewer : goal.returns-clause-fewer
returns-clause-fewer g c =
    shorter c.args.exiting.now.rest (pipes_from c.exiting.inside.process.state.descriptors c.after_pipe-rest.result) c.args.d.now c.requires.next
    (c.after_pipe-rest.ensures.rest ∙ ap (λ (v : ExitingView). drop 1 v.rest) c.exiting.view_is)
