use Rattle.std.proofs.Common.{◌≡◌, ◌<◌, ◌≤◌, ◌||◌, ℕ, false, get_or}
use Rattle.pass_plain.specs.Records.{touches}
use Rattle.pass_report.proofs.blocks.Blocks.write_rows.Given as goal

abbrev pub invariant-loop-block : goal.invariant-loop-block
invariant-loop-block l = record {
  size : l.self.size ≡ l.initial.self.size;
  done : (k : ℕ) → k < l.block → get_or l.self.rows.items k false ≡ (get_or l.initial.self.rows.items k false || touches l.at l.len k);
  left : (k : ℕ) → l.block ≤ k → get_or l.self.rows.items k false ≡ get_or l.initial.self.rows.items k false;
}
