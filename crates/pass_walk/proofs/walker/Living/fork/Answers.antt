use Rattle.std.proofs.Common.{subst}
use Rattle.std.specs.Prelude.{Result}
use Rattle.pass_trace.specs.TraceLines.{plain_trace}
use Rattle.pass_answer.specs.declared.answer.CallEnd.{CallEnd}
use Rattle.pass_proc.specs.Procs.{ProcView}
use Rattle.pass_walk.specs.Calls.{Forks}
use Rattle.pass_walk.specs.Outcomes.{IsAfter}
use Rattle.pass_walk.proofs.walker.Living.fork.Goals as goal
use Rattle.pass_walk.proofs.Forks.{unmade}
use Rattle.pass_walk.proofs.LinesAt.{within_lines}
use Rattle.pass_walk.proofs.Turning.{forked_so, may_fork_it, not_forked_so}

pub next-next-requires : goal.next-next-requires
next-next-requires g c = within_lines g.J.Whose.book.session c.args.ground.now.plan.now c.args.self c.args.place c.requires.living c.requires.line

pub returns-in_default : goal.returns-in_default
returns-in_default g c =
    unmade g.J.Whose.book.session g.J.Whose.places (plain_trace c.args.ground.now.plan.now) c.args.self c.requires.living c.next-next.result c.left-left.result c.left-left.ensures c.reserve.new.self
    c.after.result c.after.ensures

pub fork-requires : goal.fork-requires
fork-requires g c = may_fork_it g.J.Whose.book.session c.args.ground.now.plan.now c.ordered.ensures c.args.self c.requires.living c.args.place c.requires.line c.args.child c.requires.forks

pub returns-in-Ok-fork : goal.returns-in-Ok-fork
returns-in-Ok-fork g c =
    forked_so g.J.Whose.book.session c.args.ground.now.plan.now c.ordered.ensures c.args.self c.requires.living c.args.place c.requires.line c.args.child c.requires.forks
    g.J.Whose.places c.fork.new.proc c.next-next.result c.next-next.ensures c.reserve.new.self c.reserve.ensures.same c.bear.result c.in-Ok-fork.born
    (subst (λ (r : Result ProcView CallEnd). Forks g.J.Whose.book.session g.J.Whose.places c.args.self.proc c.fork.new.proc r) c.in-Ok-fork.is c.fork.ensures)
    c.first.result c.first.ensures c.bear.ensures

pub returns-in-Err : goal.returns-in-Err
returns-in-Err g c =
    not_forked_so g.J.Whose.book.session c.args.ground.now.plan.now c.ordered.ensures c.args.self c.requires.living c.args.place c.requires.line c.args.child c.requires.forks
    g.J.Whose.places c.fork.new.proc c.next-next.result c.next-next.ensures c.reserve.new.self c.reserve.ensures.same c.after-in-Err.result c.in-Err.end
    (subst (λ (r : Result ProcView CallEnd). Forks g.J.Whose.book.session g.J.Whose.places c.args.self.proc c.fork.new.proc r) c.in-Err.is c.fork.ensures)
    c.left-left.result c.left-left.ensures
    (subst (λ o. IsAfter o c.next-next.result c.left-left.result (record c.args.self { children = c.reserve.new.self; proc = c.fork.new.proc }) c.after-in-Err.result) c.unfinished.ensures c.after-in-Err.ensures)
