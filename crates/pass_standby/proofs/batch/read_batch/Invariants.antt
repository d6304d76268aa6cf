use Rattle.std.proofs.Common.{List, length}
use Rattle.pass_entry.specs.declared.record.Record.{Record}
use Rattle.pass_graph.specs.Logged.{Summarizes}
use Rattle.pass_standby.proofs.Batching.{IsReading}
use Rattle.pass_standby.proofs.batch.read_batch.Given as goal

-- behind any list that the tables tell, the records so far were read of the bytes in front of the rest
abbrev pub invariant-loop-rest : goal.invariant-loop-rest
invariant-loop-rest l = (before : List Record) → Summarizes l.fn.judge before → IsReading before l.frame l.rest l.fn.list.items l.list.items l.judge

abbrev pub decreases-loop-rest : goal.decreases-loop-rest
decreases-loop-rest l = length l.rest
