use Rattle.pass_walk.proofs.ground.Ground.make.Goals as goal
use Rattle.pass_trace.specs.TraceLines.{call_of}
use Rattle.pass_progress.specs.Calls.{request_with}
use Rattle.pass_walk.proofs.Making.{progress_any}

pub returns : goal.returns
returns g c =
    progress_any c.calls.ensures.progress c.calls.ensures.sync g.J.Whose.book.session g.J.Whose.places c.args.proc.now c.call-end.new.proc c.between.ensures c.between-2.ensures
    (request_with c.args.waited c.args.proc.now (call_of c.args.command.now)) c.call-end.result c.requires.goes c.call-end.ensures
