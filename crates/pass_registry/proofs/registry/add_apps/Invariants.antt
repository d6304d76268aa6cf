use Rattle.std.proofs.Common.{◌≡◌, ◌+◌, ◌++◌, take, map}
use Rattle.pass_registry.specs.Openings.{app_object}
use Rattle.pass_registry.proofs.registry.add_apps.Given as goal

abbrev pub invariant-loop-app : goal.invariant-loop-app
invariant-loop-app l = record {
  objects : l.table.objects ≡ l.initial.table.objects ++ map app_object (take l.app-index l.apps);
  room : l.table.room + l.app-index ≡ l.initial.table.room;
}
