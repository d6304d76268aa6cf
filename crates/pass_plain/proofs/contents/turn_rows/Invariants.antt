use Rattle.std.proofs.Common.{◌≡◌, ◌<◌, ◌≤◌, ℕ, get_or, false}
use Rattle.pass_plain.specs.Records.{row_act}
use Rattle.pass_plain.proofs.contents.turn_rows.Given as goal

abbrev pub invariant-loop-block : goal.invariant-loop-block
invariant-loop-block l = record {
  turned : (k : ℕ) → k < l.block → get_or l.rows k false ≡ row_act k (get_or l.fn.rows k false) l.act;
  ahead : (k : ℕ) → l.block ≤ k → get_or l.rows k false ≡ get_or l.fn.rows k false;
}
