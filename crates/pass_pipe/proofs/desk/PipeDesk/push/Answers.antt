use Rattle.std.proofs.Common.{◌≡◌, ap, sym, ◌∙◌, subst, refl, length}
use Rattle.std.specs.Prelude.{None, Some, ◌≤◌}
use Rattle.pass_entry.specs.declared.entry.Reply.{Reply}
use Rattle.pass_plain.specs.Pipes.{Pipe, pipe_after}
use Rattle.pass_plain.specs.Replies.{pushed}
use Rattle.pass_plain.specs.Versions.{nodes_of}
use Rattle.pass_hold.specs.Entering.{MayEnter, Enters, IsAt}
use Rattle.pass_flow.specs.Flows.{ObjectView}
use Rattle.pass_pipe.specs.Desks.{push_entry, push_reply}
use Rattle.pass_pipe.proofs.Piping.{pipe_there, given_pipe, given_source, no_rest, all_some, ok_at}
use Rattle.pass_pipe.proofs.desk.PipeDesk.push.Goals as goal

pub give_if_read-given-requires : goal.give_if_read-given-requires
give_if_read-given-requires g c =
    subst (λ (p : Pipe). ¬ (pushed p (length c.args.bytes) ≡ None)) (sym (c.self.invariant.1 ∙ ap (λ (v : ObjectView). pipe_after v.seen v.what) c.self.view_is)) c.requires.ready

pub enter_on-at-requires-clause-what : goal.enter_on-at-requires-clause-what
enter_on-at-requires-clause-what g c = c.what-what.ensures ∙ ap (λ (v : ObjectView). v.what) (sym c.self.view_is)

pub enter_on-at-requires-clause-entry : goal.enter_on-at-requires-clause-entry
enter_on-at-requires-clause-entry g c = subst (λ o. MayEnter c.args.caller.now.seen (push_entry c.args.who c.args.number o c.args.out c.args.bytes c.give_answer.result) 0) (sym c.what-what.ensures) (c.requires.entry c.give_answer.result)

pub enter_on-at-requires-clause-replies : goal.enter_on-at-requires-clause-replies
enter_on-at-requires-clause-replies g c =
    ap (λ o. pushed (pipe_after c.self.inside.desk.seen o) (length c.args.bytes)) (c.what-what.ensures ∙ ap (λ (v : ObjectView). v.what) (sym c.self.view_is))
    ∙ ap (λ (p : Pipe). pushed p (length c.args.bytes)) (sym c.self.invariant.1) ∙ c.give_if_read-given.ensures.reply ∙ ap (λ (r : Reply). Some r) (sym c.give_answer.ensures)

pub enter_on-at-requires-clause-source : goal.enter_on-at-requires-clause-source
enter_on-at-requires-clause-source g c =
    (given_source (nodes_of g.J.Whose.book.session c.args.caller.now.seen) c.args.out c.args.source.now (push_entry c.args.who c.args.number c.what-what.result c.args.out c.args.bytes c.give_answer.result) c.give_if_read-given.result c.args.bytes c.source_if.result refl c.give_answer.ensures c.requires.source c.source_if.ensures).0

pub enter_on-at-requires-clause-given : goal.enter_on-at-requires-clause-given
enter_on-at-requires-clause-given g c =
    (given_source (nodes_of g.J.Whose.book.session c.args.caller.now.seen) c.args.out c.args.source.now (push_entry c.args.who c.args.number c.what-what.result c.args.out c.args.bytes c.give_answer.result) c.give_if_read-given.result c.args.bytes c.source_if.result refl c.give_answer.ensures c.requires.source c.source_if.ensures).1

pub enter_on-at-requires-clause-spare : goal.enter_on-at-requires-clause-spare
enter_on-at-requires-clause-spare g c = all_some c.source_if.result (subst (λ (v : ObjectView). 1 ≤ v.spare) (sym c.self.view_is) c.requires.spare)

pub enter_on-at-requires-clause-rest : goal.enter_on-at-requires-clause-rest
enter_on-at-requires-clause-rest g c =
    c.new.ensures.items ∙ sym (no_rest g.J.Whose.book.session c.self.inside.desk.seen (push_entry c.args.who c.args.number c.what-what.result c.args.out c.args.bytes c.give_answer.result) c.args.out c.args.bytes c.give_if_read-given.result refl c.give_answer.ensures)

pub invariant_of-self : goal.invariant_of-self
invariant_of-self g c = (
  c.enter_on-at.ensures.object,
  pipe_there g.J.Whose.book.session c.args.caller.now.seen c.self.inside.desk c.enter_on-at.new.desk (push_entry c.args.who c.args.number c.what-what.result c.args.out c.args.bytes c.give_answer.result)
      (c.what-what.ensures ∙ ap (λ (v : ObjectView). v.what) (sym c.self.view_is)) c.enter_on-at.new.caller.seen c.enter_on-at.ensures.entry.entered c.enter_on-at.new.caller.syncs c.enter_on-at.ensures.desk
      c.self.inside.state c.give_if_read-given.new.state c.self.invariant.1
      (given_pipe c.self.inside.state c.give_if_read-given.new.state (push_entry c.args.who c.args.number c.what-what.result c.args.out c.args.bytes c.give_answer.result) c.args.out c.args.bytes c.give_if_read-given.result refl c.give_answer.ensures (c.give_if_read-given.ensures.state c.args.out)),
)

pub returns-clause-reply : goal.returns-clause-reply
returns-clause-reply g c =
    ap (λ (v : ObjectView). pushed (pipe_after v.seen v.what) (length c.args.bytes)) (sym c.self.view_is)
    ∙ ap (λ (p : Pipe). pushed p (length c.args.bytes)) (sym c.self.invariant.1) ∙ c.give_if_read-given.ensures.reply ∙ ap (λ (r : Reply). Some r) (sym c.pushed_at.ensures.reply)

pub returns-clause-entry : goal.returns-clause-entry
returns-clause-entry g c =
    let e = c.enter_on-at.new.caller in
    subst (λ (v : ObjectView). Enters g.J.Whose.book.session c.args.caller.now e v.seen (push_entry c.args.who c.args.number v.what c.args.out c.args.bytes (push_reply c.pushed_at.result)) 0) c.self.view_is
    (subst (λ r. Enters g.J.Whose.book.session c.args.caller.now e c.self.inside.desk.seen (push_entry c.args.who c.args.number c.self.inside.desk.what c.args.out c.args.bytes r) 0) (c.give_answer.ensures ∙ sym c.pushed_at.ensures.reply)
    (subst (λ o. Enters g.J.Whose.book.session c.args.caller.now e c.self.inside.desk.seen (push_entry c.args.who c.args.number o c.args.out c.args.bytes c.give_answer.result) 0)
    (c.what-what.ensures ∙ ap (λ (v : ObjectView). v.what) (sym c.self.view_is)) c.enter_on-at.ensures.entry))

pub returns-clause-at : goal.returns-clause-at
returns-clause-at g c = ok_at c.pushed_at.result c.enter_on-at.result (IsAt g.J.Whose.book.session c.enter_on-at.new.caller.seen) c.pushed_at.ensures.at c.enter_on-at.ensures.at
