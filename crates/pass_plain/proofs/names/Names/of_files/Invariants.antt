use Rattle.std.proofs.Common.{◌≡◌, take}
use Rattle.std.specs.Prelude.{filter_map}
use Rattle.pass_plain.specs.Registries.{named_file}
use Rattle.pass_plain.proofs.names.Names.of_files.Given as goal

abbrev pub invariant-loop-file : goal.invariant-loop-file
invariant-loop-file l = l.log.items ≡ filter_map named_file (take l.file-index l.files)
