use Rattle.std.proofs.Common.{◌∙◌, sym}
use Rattle.pass_trace.proofs.LinesLemmas.{lines_of_some, lines_of_none}
use Rattle.pass_ask.proofs.questions.first_line.Goals as goal

pub returns-in-Some-clause-lines : goal.returns-in-Some-clause-lines
returns-in-Some-clause-lines c = lines_of_some c.args.bytes.now c.in-Some.end c.requires (sym c.line_end.ensures ∙ c.in-Some.is)

pub returns-in-None-clause-lines : goal.returns-in-None-clause-lines
returns-in-None-clause-lines c = lines_of_none c.args.bytes.now c.requires (sym c.line_end.ensures ∙ c.in-None.is)
