use Rattle.std.proofs.Common.{◌≡◌, ◌<◌, ◌-◌, ◌++◌, length, vec_len}
use Rattle.std.specs.Prelude.{IsTrue}
use Rattle.pass_outside.specs.Faults.{count_end}
use Rattle.pass_status.specs.Reading.{counted_of, StopsInTime}
use Rattle.pass_status.proofs.reading.read_source.Given as goal

abbrev pub invariant-pieces : goal.invariant-pieces
invariant-pieces g l = record {
  left : IsTrue g.S.Source.tells → g.S.Source.left l.fn.source ≡ l.text.items ++ g.S.Source.left l.source;
  seen : l.limits ≡ counted_of l.fn.scale l.text.items;
  room : length l.piece ≡ 4096;
  stops : StopsInTime l.fn.scale l.text.items;
  same : g.S.Source.fault_count l.source ≡ g.S.Source.fault_count l.fn.source;
  goes : 0 < vec_len l.text → g.S.Source.fault_count l.fn.source ≡ count_end → ⊥;
}

abbrev pub decreases-pieces : goal.decreases-pieces
decreases-pieces g l = 8401008401 - vec_len l.text
