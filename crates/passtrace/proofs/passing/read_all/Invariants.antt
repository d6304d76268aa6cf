use Rattle.std.proofs.Common.{◌≡◌, ◌++◌, length}
use Rattle.std.specs.Prelude.{IsTrue}
use Rattle.passtrace.proofs.passing.read_all.Given as goal

abbrev pub invariant-pieces : goal.invariant-pieces
invariant-pieces g l = record {
  left : IsTrue g.S.Source.tells → g.S.Source.left l.fn.source ≡ l.text.items ++ g.S.Source.left l.source;
  room : length l.piece ≡ 4096;
  same : g.S.Source.fault_count l.source ≡ g.S.Source.fault_count l.fn.source;
}
