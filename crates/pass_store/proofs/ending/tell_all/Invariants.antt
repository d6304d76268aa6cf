use Rattle.std.proofs.Common.{◌≡◌}
use Rattle.std.specs.List.{All}
use Rattle.pass_store.specs.Closings.{IsTold}
use Rattle.pass_store.proofs.ending.tell_all.Given as goal

abbrev pub invariant-loop-trail : goal.invariant-loop-trail
invariant-loop-trail g l = record {
  shelf : l.shelf ≡ record l.initial.shelf { syncs = l.shelf.syncs };
  told : All (IsTold l.initial.shelf.history) l.yielded;
}
