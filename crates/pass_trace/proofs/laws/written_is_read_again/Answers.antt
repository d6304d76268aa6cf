use Rattle.pass_trace.specs.Traces.{trace_of}
use Rattle.pass_trace.proofs.Again.{follows, within, text_of-follows, trace_of-follows}
use Rattle.pass_trace.proofs.laws.written_is_read_again.Goals as goal

pub returns-clause-text : goal.returns-clause-text
returns-clause-text c scale bytes h = text_of-follows scale (trace_of bytes) (follows scale bytes h) (within scale bytes h)

pub returns-clause-trace : goal.returns-clause-trace
returns-clause-trace c scale bytes h = trace_of-follows scale (trace_of bytes) (follows scale bytes h) (within scale bytes h)
