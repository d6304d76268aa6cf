use Rattle.std.proofs.Common.{◌∙◌}
use Rattle.pass_files.proofs.flows.Flows.has_program.Goals as goal

pub returns : goal.returns
returns c = λ list are. c.contains.ensures ∙ are.execs c.args.target.now
