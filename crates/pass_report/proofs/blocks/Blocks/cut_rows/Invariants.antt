use Rattle.std.proofs.Common.{◌≡◌, ◌<◌, ◌≤◌, ◌*◌, ◌&&◌, ℕ, false, get_or}
use Rattle.std.specs.Prelude.{nat_lt}
use Rattle.pass_report.proofs.blocks.Blocks.cut_rows.Given as goal

abbrev pub invariant-loop-block : goal.invariant-loop-block
invariant-loop-block l = record {
  size : l.self.size ≡ l.initial.self.size;
  done : (k : ℕ) → k < l.block → get_or l.self.rows.items k false ≡ (get_or l.initial.self.rows.items k false && nat_lt (k * 4096) l.size);
  left : (k : ℕ) → l.block ≤ k → get_or l.self.rows.items k false ≡ get_or l.initial.self.rows.items k false;
}
