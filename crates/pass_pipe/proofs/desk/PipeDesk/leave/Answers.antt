use Rattle.std.proofs.Common.{ap, sym, ◌∙◌, subst}
use Rattle.pass_hold.specs.Entering.{MayEnter, Enters}
use Rattle.pass_flow.specs.Flows.{ObjectView}
use Rattle.pass_pipe.specs.Desks.{leave_entry}
use Rattle.pass_entry.specs.declared.entry.CallName.TheVariants as calls
use Rattle.pass_pipe.proofs.Piping.{pipe_there}
use Rattle.pass_pipe.proofs.desk.PipeDesk.leave.Goals as goal

pub enter_on-place-requires-clause-what : goal.enter_on-place-requires-clause-what
enter_on-place-requires-clause-what g c = c.what-what.ensures ∙ ap (λ (v : ObjectView). v.what) (sym c.self.view_is)

pub enter_on-place-requires-clause-entry : goal.enter_on-place-requires-clause-entry
enter_on-place-requires-clause-entry g c = subst (λ o. MayEnter c.args.caller.now.seen (leave_entry c.args.who c.args.number calls.CloseFd o c.args.end) 0) (sym c.what-what.ensures) c.requires.entry

pub invariant_of-self : goal.invariant_of-self
invariant_of-self g c = (
  c.enter_on-place.ensures.object,
  pipe_there g.J.Whose.book.session c.args.caller.now.seen c.self.inside.desk c.enter_on-place.new.desk (leave_entry c.args.who c.args.number calls.CloseFd c.what-what.result c.args.end)
      (c.what-what.ensures ∙ ap (λ (v : ObjectView). v.what) (sym c.self.view_is)) c.enter_on-place.new.caller.seen c.enter_on-place.ensures.entry.entered c.enter_on-place.new.caller.syncs c.enter_on-place.ensures.desk
      c.self.inside.state c.drop_one.new.state c.self.invariant.1 c.drop_one.ensures,
)

pub returns-clause-entry : goal.returns-clause-entry
returns-clause-entry g c =
    subst (λ (v : ObjectView). Enters g.J.Whose.book.session c.args.caller.now c.enter_on-place.new.caller v.seen (leave_entry c.args.who c.args.number calls.CloseFd v.what c.args.end) 0) c.self.view_is
    (subst (λ o. Enters g.J.Whose.book.session c.args.caller.now c.enter_on-place.new.caller c.self.inside.desk.seen (leave_entry c.args.who c.args.number calls.CloseFd o c.args.end) 0)
    (c.what-what.ensures ∙ ap (λ (v : ObjectView). v.what) (sym c.self.view_is)) c.enter_on-place.ensures.entry)
