use Rattle.std.proofs.Common.{◌≡◌, ◌==◌, ◌<◌, ℕ, false, get_or, length, take}
use Rattle.std.specs.List.{list_any}
use Rattle.pass_report.proofs.blocks.row_flags.Given as goal

abbrev pub invariant-loop-block : goal.invariant-loop-block
invariant-loop-block l = record {
  whole : length l.rows.items ≡ 1024;
  same : (k : ℕ) → k < 1024 → get_or l.rows.items k false ≡ list_any (λ x. x == k) (take l.block-index l.blocks);
}
