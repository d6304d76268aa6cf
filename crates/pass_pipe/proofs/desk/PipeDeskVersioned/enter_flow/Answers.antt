use Rattle.std.proofs.Common.{ap, sym, ◌∙◌}
use Rattle.std.specs.Prelude.{if◌then◌else◌}
use Rattle.pass_entry.specs.declared.entry.Reply.{Reply}
use Rattle.pass_plain.specs.Histories.{is_fault}
use Rattle.pass_plain.specs.Pipes.{pipe_act}
use Rattle.pass_flow.specs.Entering.{rest_records}
use Rattle.pass_flow.specs.Flows.{ObjectView}
use Rattle.pass_flow.proofs.Flowing.{flow_fits, flow_replies}
use Rattle.pass_pipe.proofs.Piping.{flow_leaves, pipe_there}
use Rattle.pass_pipe.proofs.desk.PipeDeskVersioned.enter_flow.Goals as goal

pub enter_on-requires-clause-act : goal.enter_on-requires-clause-act
enter_on-requires-clause-act g c = flow_fits c.args.entry.act c.requires.act

pub enter_on-requires-clause-what : goal.enter_on-requires-clause-what
enter_on-requires-clause-what g c = c.requires.what ∙ ap (λ (v : ObjectView). v.what) (sym c.self.view_is)

pub enter_on-requires-clause-replies : goal.enter_on-requires-clause-replies
enter_on-requires-clause-replies g c = flow_replies g.J.Whose.book.session c.self.inside.desk.seen c.args.entry c.requires.act c.requires.done

pub enter_on-requires-clause-rest : goal.enter_on-requires-clause-rest
enter_on-requires-clause-rest g c = c.requires.rest ∙ ap (λ (v : ObjectView). rest_records g.J.Whose.book.session v.seen c.args.entry) (sym c.self.view_is)

pub invariant_of-self : goal.invariant_of-self
invariant_of-self g c = (
  c.enter_on.ensures.object,
  pipe_there g.J.Whose.book.session c.args.caller.now.seen c.self.inside.desk c.enter_on.new.desk c.args.entry
      (c.requires.what ∙ ap (λ (v : ObjectView). v.what) (sym c.self.view_is)) c.enter_on.new.caller.seen c.enter_on.ensures.entry.entered c.enter_on.new.caller.syncs c.enter_on.ensures.desk
      c.self.inside.state c.self.inside.state c.self.invariant.1
      (sym (ap (λ (r : Reply). if is_fault r then c.self.inside.state else pipe_act c.self.inside.state c.args.entry.act) c.requires.done ∙ flow_leaves c.self.inside.state c.args.entry.act c.requires.act)),
)
