use Rattle.std.proofs.Common.{◌≡◌, length, take}
use Rattle.pass_keep.specs.Keepers.{disk_of, log_of, durable_of, GoesOn, Made}
use Rattle.pass_vault.specs.Pooled.{staged_all, pushed_all, Unsyncs}
use Rattle.pass_vault.specs.Saves.{Stages}
use Rattle.pass_vault.proofs.staging.put_all.Given as goal

abbrev pub invariant-loop-one : goal.invariant-loop-one
invariant-loop-one g l = record {
  staged : Stages g.D.Disk.view l.fn.number (take l.one-index l.blocks) l.fn.keeper l.fn.unwritten l.keeper l.unwritten;
  pool : l.unwritten.pool ≡ staged_all l.fn.unwritten.pool l.fn.number (take l.one-index l.blocks);
  unsynced : Unsyncs (pushed_all l.fn.unwritten.pool l.fn.number (take l.one-index l.blocks)) l.fn.unwritten.unsynced l.unwritten.unsynced;
  made : Made (length (pushed_all l.fn.unwritten.pool l.fn.number (take l.one-index l.blocks))) (g.D.Disk.view (disk_of l.fn.keeper)) (g.D.Disk.view (disk_of l.keeper));
  log : log_of l.keeper ≡ log_of l.fn.keeper;
  durable : durable_of l.keeper ≡ durable_of l.fn.keeper;
  goes_on : GoesOn (g.D.Disk.view (disk_of l.fn.keeper)) (g.D.Disk.view (disk_of l.keeper));
}
