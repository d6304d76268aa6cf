use Rattle.std.proofs.Common.{◌≡◌, ◌≤◌, ◌-◌, ◌++◌, length, take}
use Rattle.std.specs.Prelude.{IsTrue}
use Rattle.passtrace.proofs.passing.write_all.Given as goal

abbrev pub invariant-pieces : goal.invariant-pieces
invariant-pieces g l = record {
  within : l.written ≤ length l.text;
  taken : IsTrue g.K.Sink.tells → g.K.Sink.taken l.sink ≡ g.K.Sink.taken l.fn.sink ++ take l.written l.text;
  same : g.K.Sink.fault_count l.sink ≡ g.K.Sink.fault_count l.fn.sink;
}

abbrev pub decreases-pieces : goal.decreases-pieces
decreases-pieces g l = length l.text - l.written
