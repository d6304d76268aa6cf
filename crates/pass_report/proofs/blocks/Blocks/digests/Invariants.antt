use Rattle.std.proofs.Common.{◌≡◌, ◌≤◌}
use Rattle.pass_report.specs.Digests.{passing, gets_digest, row_at}
use Rattle.pass_report.proofs.blocks.Blocks.digests.Given as goal

abbrev pub invariant-loop-block : goal.invariant-loop-block
invariant-loop-block l = record {
  count : l.digests ≡ passing (gets_digest (row_at l.self.rows.items) l.self.size l.at l.len l.size) l.block;
  few : l.digests ≤ l.block;
}
