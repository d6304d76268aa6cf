use Rattle.std.proofs.Common.{◌≡◌, ◌++◌, [], false}
use Rattle.std.specs.Prelude.{IsTrue}
use Rattle.pass_outside.specs.Faults.{HasStayed}
use Rattle.pass_ask.proofs.questions.read_all.Given as goal

abbrev pub invariant-pieces : goal.invariant-pieces
invariant-pieces g l = record {
  left : IsTrue g.S.Source.tells → g.S.Source.left l.fn.source ≡ l.text.items ++ g.S.Source.left l.source;
  ended : l.more ≡ false → IsTrue g.S.Source.tells → g.S.Source.left l.source ≡ [];
  stays : HasStayed (g.S.Source.fault_count l.fn.source) (g.S.Source.fault_count l.source);
}
