use Rattle.pass_outside.specs.Moments.{IsAtEnd}
use Rattle.std.proofs.Common.{◌≡◌, ◌+◌, ◌*◌, drop}
use Rattle.pass_log.specs.Log.{log_end, log_opened, IsSettled, LeavesStore}
use Rattle.pass_keep.specs.Parts.{bytes_length}
use Rattle.pass_keep.proofs.Appending.{KeepsPartly}
use Rattle.pass_keep.proofs.append.append_frames.Given as goal

abbrev pub invariant-loop-frame : goal.invariant-loop-frame
invariant-loop-frame g l = record {
  partly : KeepsPartly l.frames (g.D.Disk.view l.fn.disk) l.fn.log l.frame-index (g.D.Disk.view l.disk) l.log;
  settled : IsSettled l.log (g.D.Disk.view l.disk);
  opened : log_opened l.log ≡ log_opened l.fn.log;
  healthy : (g.D.Disk.view l.disk).faults ≡ (g.D.Disk.view l.fn.disk).faults;
  place : log_end l.log + bytes_length (drop l.frame-index l.frames) ≡ log_end l.fn.log + bytes_length l.frames;
  calls : (g.D.Disk.view l.disk).calls ≡ (g.D.Disk.view l.fn.disk).calls + 4 * l.frame-index;
  stands : IsAtEnd (g.D.Disk.view l.fn.disk) → (l.disk ≡ l.fn.disk) × (l.log ≡ l.fn.log);
  store : LeavesStore (g.D.Disk.view l.fn.disk) (g.D.Disk.view l.disk);
  tells : (g.D.Disk.view l.disk).tells ≡ (g.D.Disk.view l.fn.disk).tells;
}
