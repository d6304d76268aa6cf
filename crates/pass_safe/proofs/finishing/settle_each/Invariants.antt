use Rattle.std.proofs.Common.{◌≡◌, length}
use Rattle.std.specs.List.{All}
use Rattle.std.specs.Prelude.{None, Ok}
use mathlib.Core.List.{IsPrefix}
use Rattle.pass_safe.specs.Safes.{Leaves}
use Rattle.pass_safe.specs.Settled.{AreSettled, IsClean}
use Rattle.pass_safe.proofs.finishing.settle_each.Given as goal

abbrev pub invariant-loop-file : goal.invariant-loop-file
invariant-loop-file g l = record {
  shelf : l.shelf ≡ record l.initial.shelf { syncs = l.shelf.syncs };
  vault : l.safe.vault ≡ record l.initial.safe.vault { disk = l.safe.vault.disk; pool = l.safe.vault.pool; unsynced = l.safe.vault.unsynced; syncs = l.safe.vault.syncs };
  grows : IsPrefix l.initial.safe.vault.syncs l.safe.vault.syncs;
  done : AreSettled (length l.initial.shelf.history) l.yielded l.initial.safe.vault.syncs l.safe.vault.syncs;
  clean : All (λ f. IsClean g.J.Whose.book.session l.initial.shelf.history l.safe.vault.syncs f.what) l.yielded;
  safe : Leaves g.D.Disk.view l.initial.safe l.safe (Ok (tt {0}));
  healthy : l.safe.lost ≡ None;
}
