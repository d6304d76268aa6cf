use Rattle.std.proofs.Common.{refl}
use Rattle.pass_trace.specs.TraceLines.{plain_line}
use Rattle.pass_walk.proofs.walker.Living.make.Goals as goal
use Rattle.pass_walk.proofs.Linked.{plain_at}
use Rattle.pass_walk.proofs.LinesAt.{within_lines}
use Rattle.pass_walk.proofs.Turning.{after_going_on, called_so, may_call, may_make_it}

pub next-next-requires : goal.next-next-requires
next-next-requires g c = within_lines g.J.Whose.book.session c.args.ground.now.plan.now c.args.self.now c.args.place c.requires.living c.requires.line

pub line-requires : goal.line-requires
line-requires g c = within_lines g.J.Whose.book.session c.args.ground.now.plan.now c.args.self.now c.args.place c.requires.living c.requires.line

pub make-end-requires-clause-call : goal.make-end-requires-clause-call
make-end-requires-clause-call g c =
    may_call g.J.Whose.book.session c.args.ground.now.plan.now c.ordered.ensures c.args.self.now c.requires.living c.args.place c.requires.line c.line.result.now c.line.ensures

pub make-end-requires-clause-other : goal.make-end-requires-clause-other
make-end-requires-clause-other g c child =
    c.requires.other (plain_line c.line.result.now) child (plain_at c.args.ground.now.plan.now c.args.place c.line.result.now c.line.ensures)

pub make-end-requires-clause-goes : goal.make-end-requires-clause-goes
make-end-requires-clause-goes g c =
    may_make_it g.J.Whose.book.session c.args.ground.now.plan.now c.ordered.ensures c.args.self.now c.requires.living c.args.place c.requires.line c.line.result.now c.line.ensures
    c.standing.ensures.last_read c.between.ensures c.waited-waited.result c.waited-waited.ensures

pub returns : goal.returns
returns g c = λ w after.
    called_so g.J.Whose.book.session c.args.ground.now.plan.now c.ordered.ensures c.args.self.now c.requires.living c.args.place c.requires.line c.line.result.now c.line.ensures
    c.standing.ensures.last_read c.between.ensures c.waited-waited.result c.waited-waited.ensures c.requires.other c.lives.ensures.birth g.J.Whose.places c.make-end.new.proc c.make-end.result c.make-end.ensures
    c.next-next.result c.next-next.ensures _ refl w
    (after_going_on _ c.answered-outcome.result c.next-next.result _ (record c.args.self.now { proc = c.make-end.new.proc }) c.go_on.new.self w c.answered-outcome.ensures c.go_on.ensures after)
