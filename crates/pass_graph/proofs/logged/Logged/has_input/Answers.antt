use Rattle.std.proofs.Common.{◌∙◌}
use Rattle.pass_graph.proofs.logged.Logged.has_input.Goals as goal

pub returns : goal.returns
returns c = λ list s. c.contains.ensures ∙ s.inputs c.args.target c.args.source
