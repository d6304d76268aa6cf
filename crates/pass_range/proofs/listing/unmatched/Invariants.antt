use Rattle.std.proofs.Common.{◌≡◌, IsTrue, length, take, map, filter, not}
use Rattle.pass_outside.specs.Areas.{Image}
use Rattle.pass_outside.specs.Moments.{Adds}
use Rattle.pass_range.specs.Tables.{Row, is_matched}
use Rattle.pass_range.proofs.listing.unmatched.Given as goal

abbrev pub invariant-loop-range : goal.invariant-loop-range
invariant-loop-range g l = record {
  found : IsTrue (g.D.Disk.view l.fn.disk).tells
      → l.found.items ≡ map (λ (row : Row). row.0) (filter (λ row. not (is_matched l.table (g.D.Disk.view l.fn.disk).seen.store row)) (take l.range-index l.table.rows.items));
  buffer : length l.buffer.items ≡ 4096;
  tells : (g.D.Disk.view l.disk).tells ≡ (g.D.Disk.view l.fn.disk).tells;
  faults : (g.D.Disk.view l.disk).faults ≡ (g.D.Disk.view l.fn.disk).faults;
  content : (g.D.Disk.view l.disk).seen ≡ (g.D.Disk.view l.fn.disk).seen;
  crash : (c : Image) → (g.D.Disk.view l.disk).may_leave c → (g.D.Disk.view l.fn.disk).may_leave c;
  run : Adds (g.D.Disk.view l.fn.disk) (g.D.Disk.view l.disk) (g.D.Disk.view l.fn.disk).may_leave;
}
