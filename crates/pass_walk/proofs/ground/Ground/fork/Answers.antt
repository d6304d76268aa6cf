use Rattle.std.proofs.Common.{subst}
use Rattle.std.specs.Prelude.{Result, IfOk}
use Rattle.pass_plain.specs.declared.request.Request.TheVariants as requests
use Rattle.pass_answer.specs.Answers.{Answers}
use Rattle.pass_answer.specs.declared.answer.CallEnd.{CallEnd}
use Rattle.pass_answer.specs.Lives.{IsChild, forked}
use Rattle.pass_proc.specs.Procs.{ProcView}
use Rattle.pass_walk.proofs.ground.Ground.fork.Goals as goal
use Rattle.pass_walk.proofs.Making.{forked_so, not_forked_so}

pub returns-in-Ok : goal.returns-in-Ok
returns-in-Ok g c =
    forked_so g.J.Whose.book.session g.J.Whose.places c.args.proc.now c.fork-forked.new.proc c.between.ensures c.between-2.ensures c.requires c.calls.ensures.progress c.lives.ensures.birth c.lives.ensures.newborn c.standing.ensures.number
    c.in-Ok.child c.between-in-Ok.ensures
    (subst (λ (r : Result ProcView CallEnd). Answers g.J.Whose.book.session g.J.Whose.places c.args.proc.now c.fork-forked.new.proc requests.Fork (forked r)) c.in-Ok.is c.fork-forked.ensures.call)
    (subst (λ (r : Result ProcView CallEnd). IfOk r (λ child. IsChild c.fork-forked.new.proc child)) c.in-Ok.is c.fork-forked.ensures.child)

pub returns-in-Err : goal.returns-in-Err
returns-in-Err g c =
    not_forked_so g.J.Whose.book.session g.J.Whose.places c.args.proc.now c.fork-forked.new.proc c.between.ensures c.between-2.ensures c.requires c.calls.ensures.progress c.lives.ensures.childless
    c.in-Err.end
    (subst (λ (r : Result ProcView CallEnd). Answers g.J.Whose.book.session g.J.Whose.places c.args.proc.now c.fork-forked.new.proc requests.Fork (forked r)) c.in-Err.is c.fork-forked.ensures.call)
