use Rattle.std.proofs.Common.{◌≡◌, ◌≤◌, ◌<◌, ◌-◌, ◌++◌, length, take}
use Rattle.std.specs.Prelude.{IsTrue}
use Rattle.pass_outside.specs.Faults.{count_end}
use Rattle.pass_status.proofs.writing.write_text.Given as goal

abbrev pub invariant-pieces : goal.invariant-pieces
invariant-pieces g l = record {
  within : l.written ≤ length l.text;
  taken : IsTrue g.K.Sink.tells → g.K.Sink.taken l.sink ≡ g.K.Sink.taken l.fn.sink ++ take l.written l.text;
  same : g.K.Sink.fault_count l.sink ≡ g.K.Sink.fault_count l.fn.sink;
  untouched : length l.text ≡ 0 → l.sink ≡ l.fn.sink;
  goes : 0 < l.written → g.K.Sink.fault_count l.fn.sink ≡ count_end → ⊥;
}

abbrev pub decreases-pieces : goal.decreases-pieces
decreases-pieces g l = length l.text - l.written
