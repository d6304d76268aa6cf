use Rattle.std.proofs.Common.{◌≡◌, ◌+◌, ◌++◌, take, map}
use Rattle.pass_registry.specs.Openings.{file_object}
use Rattle.pass_registry.proofs.registry.add_files.Given as goal

abbrev pub invariant-loop-file : goal.invariant-loop-file
invariant-loop-file l = record {
  objects : l.table.objects ≡ l.initial.table.objects ++ map file_object (take l.file-index l.files);
  room : l.table.room + l.file-index ≡ l.initial.table.room;
}
