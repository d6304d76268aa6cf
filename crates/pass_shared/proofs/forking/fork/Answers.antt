use Rattle.std.proofs.Common.{◌∙◌, Ok, Option, ap, subst, sym}
use Rattle.pass_plain.specs.declared.request.Request.TheVariants as requests
use Rattle.pass_proc.specs.Procs.{ProcView, proc_with}
use Rattle.pass_proc.specs.declared.way.Way.{Way}
use Rattle.pass_answer.specs.Answers.{Answers}
use Rattle.pass_answer.specs.declared.answer.Moved.TheVariants as moved
use Rattle.pass_shared.proofs.forking.fork.Goals as goal

pub returns-in-Ok-clause-call : goal.returns-in-Ok-clause-call
returns-in-Ok-clause-call g c =
    subst (λ (way : Option Way). Answers g.J.Whose.book.session g.J.Whose.places c.args.proc.now (proc_with c.begin_fork-begun.new.process c.begin_fork-begun.new.number c.bear.new.caller way) requests.Fork (Ok moved.Done)) (sym c.in-Ok.ensures.way)
    (c.bear.ensures.call c.args.proc.now
    (sym (ap (λ (v : ProcView). v.who) c.proc.view_is) ∙ sym c.begin_fork-begun.ensures.who)
    (sym (ap (λ (v : ProcView). v.seen) c.proc.view_is) ∙ sym c.in-Ok.ensures.before))
