use Rattle.pass_trace.proofs.Again.{follows, within, text_of-follows, trace_of-follows}
use Rattle.pass_trace.proofs.laws.lines_that_follow.Goals as goal

pub returns-clause-lines : goal.returns-clause-lines
returns-clause-lines c scale bytes h = (follows scale bytes h, within scale bytes h)

pub returns-clause-text : goal.returns-clause-text
returns-clause-text c = text_of-follows

pub returns-clause-trace : goal.returns-clause-trace
returns-clause-trace c = trace_of-follows
