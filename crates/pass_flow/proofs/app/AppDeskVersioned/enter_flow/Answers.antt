use Rattle.std.proofs.Common.{ap, sym, ◌∙◌}
use Rattle.pass_flow.specs.Entering.{rest_records}
use Rattle.pass_flow.specs.Flows.{ObjectView}
use Rattle.pass_flow.proofs.Flowing.{flow_fits, flow_replies}
use Rattle.pass_flow.proofs.app.AppDeskVersioned.enter_flow.Goals as goal

pub enter_on-requires-clause-act : goal.enter_on-requires-clause-act
enter_on-requires-clause-act g c = flow_fits c.args.entry.act c.requires.act

pub enter_on-requires-clause-what : goal.enter_on-requires-clause-what
enter_on-requires-clause-what g c = c.requires.what ∙ ap (λ (v : ObjectView). v.what) (sym c.self.view_is)

pub enter_on-requires-clause-replies : goal.enter_on-requires-clause-replies
enter_on-requires-clause-replies g c = flow_replies g.J.Whose.book.session c.self.inside.desk.seen c.args.entry c.requires.act c.requires.done

pub enter_on-requires-clause-rest : goal.enter_on-requires-clause-rest
enter_on-requires-clause-rest g c = c.requires.rest ∙ ap (λ (v : ObjectView). rest_records g.J.Whose.book.session v.seen c.args.entry) (sym c.self.view_is)
