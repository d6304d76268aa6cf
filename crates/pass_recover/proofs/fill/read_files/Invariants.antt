use Rattle.std.proofs.Common.{◌≡◌, IsTrue, take}
use Rattle.pass_outside.specs.Areas.{Image}
use Rattle.pass_outside.specs.Moments.{Adds}
use Rattle.pass_recover.specs.Fills.{AreFilled, AreRead, other_ranges}
use Rattle.pass_recover.proofs.fill.read_files.Given as goal

abbrev pub invariant-loop-range : goal.invariant-loop-range
invariant-loop-range g l = record {
  filled : AreFilled l.list (take l.range-index l.table.rows.items) l.files.items;
  read : IsTrue (g.D.Disk.view l.fn.disk).tells → AreRead l.list (take l.range-index l.table.rows.items) (g.D.Disk.view l.fn.disk).seen.store l.files.items;
  unmatched : l.unmatched.items ≡ other_ranges l.table l.files.items (take l.range-index l.table.rows.items);
  tells : (g.D.Disk.view l.disk).tells ≡ (g.D.Disk.view l.fn.disk).tells;
  faults : (g.D.Disk.view l.disk).faults ≡ (g.D.Disk.view l.fn.disk).faults;
  content : (g.D.Disk.view l.disk).seen ≡ (g.D.Disk.view l.fn.disk).seen;
  crash : (c : Image) → (g.D.Disk.view l.disk).may_leave c → (g.D.Disk.view l.fn.disk).may_leave c;
  run : Adds (g.D.Disk.view l.fn.disk) (g.D.Disk.view l.disk) (g.D.Disk.view l.fn.disk).may_leave;
}
