use Rattle.std.proofs.Common.{length}
use Rattle.pass_outside.specs.Faults.{HasStayed}
use Rattle.pass_trace.specs.Lines.{lines_of}
use Rattle.pass_ask.proofs.Turns.{Going}
use Rattle.pass_ask.proofs.questions.answer_lines.Given as goal

abbrev pub invariant-loop-rest : goal.invariant-loop-rest
invariant-loop-rest g l = record {
  going : Going l.fn.json l.fn.index (lines_of l.fn.text) (lines_of l.rest) g.K.Sink.tells (g.K.Sink.taken l.fn.sink) (g.K.Sink.taken l.sink);
  stays : HasStayed (g.K.Sink.fault_count l.fn.sink) (g.K.Sink.fault_count l.sink);
}

abbrev pub decreases-loop-rest : goal.decreases-loop-rest
decreases-loop-rest g l = length l.rest
