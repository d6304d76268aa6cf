use Rattle.std.proofs.Common.{◌≡◌}
use Rattle.pass_store.specs.Closings.{AreByNumber}
use Rattle.pass_store.proofs.settling.numbered_files.Given as goal

abbrev pub invariant-loop-slot : goal.invariant-loop-slot
invariant-loop-slot g l = record {
  seen : l.registry.seen ≡ l.fn.shelf.history;
  shelf : l.shelf ≡ record l.fn.shelf { syncs = l.shelf.syncs };
  files : AreByNumber g.J.Whose.book.session l.fn.shelf.history l.files.items;
}
