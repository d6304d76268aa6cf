use Rattle.std.proofs.Common.{ap, sym, ◌∙◌, subst}
use Rattle.pass_plain.specs.Pipes.{pipe_after}
use Rattle.pass_plain.specs.Replies.{taken}
use Rattle.pass_hold.specs.Entering.{MayEnter, Enters}
use Rattle.pass_flow.specs.Flows.{ObjectView}
use Rattle.pass_pipe.specs.Desks.{take_entry}
use Rattle.pass_pipe.proofs.Piping.{pipe_there}
use Rattle.pass_pipe.proofs.desk.PipeDesk.take.Goals as goal

pub enter_on-requires-clause-what : goal.enter_on-requires-clause-what
enter_on-requires-clause-what g c = c.what-what.ensures ∙ ap (λ (v : ObjectView). v.what) (sym c.self.view_is)

pub enter_on-requires-clause-entry : goal.enter_on-requires-clause-entry
enter_on-requires-clause-entry g c =
    subst (λ o. MayEnter c.args.caller.now.seen (take_entry c.args.who c.args.number o c.args.len c.args.bytes) 2) (sym c.what-what.ensures) c.requires.entry

pub enter_on-requires-clause-replies : goal.enter_on-requires-clause-replies
enter_on-requires-clause-replies g c =
    ap (λ o. taken (pipe_after c.self.inside.desk.seen o) c.args.len) c.what-what.ensures
    ∙ ap (λ (v : ObjectView). taken (pipe_after v.seen c.args.self.now.what) c.args.len) c.self.view_is ∙ c.requires.reply

pub invariant_of-self : goal.invariant_of-self
invariant_of-self g c = (
  c.enter_on.ensures.object,
  pipe_there g.J.Whose.book.session c.args.caller.now.seen c.self.inside.desk c.enter_on.new.desk (take_entry c.args.who c.args.number c.what-what.result c.args.len c.args.bytes)
      (c.what-what.ensures ∙ ap (λ (v : ObjectView). v.what) (sym c.self.view_is)) c.enter_on.new.caller.seen c.enter_on.ensures.entry.entered c.enter_on.new.caller.syncs c.enter_on.ensures.desk
      c.self.inside.state c.skip.new.self c.self.invariant.1 c.skip.ensures,
)

pub returns-clause-entry : goal.returns-clause-entry
returns-clause-entry g c =
    subst (λ (v : ObjectView). Enters g.J.Whose.book.session c.args.caller.now c.enter_on.new.caller v.seen (take_entry c.args.who c.args.number v.what c.args.len c.args.bytes) 2) c.self.view_is
    (subst (λ o. Enters g.J.Whose.book.session c.args.caller.now c.enter_on.new.caller c.self.inside.desk.seen (take_entry c.args.who c.args.number o c.args.len c.args.bytes) 2)
    (c.what-what.ensures ∙ ap (λ (v : ObjectView). v.what) (sym c.self.view_is)) c.enter_on.ensures.entry)
