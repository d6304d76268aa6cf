use Rattle.std.proofs.Common.{◌≡◌, take}
use Rattle.std.specs.Prelude.{flat_map, string_bytes}
use Rattle.pass_old.specs.Listings.{version_lines}
use Rattle.pass_old.proofs.consulting.files_text.Given as goal

abbrev pub invariant-loop-file : goal.invariant-loop-file
invariant-loop-file l = string_bytes l.text ≡ flat_map (version_lines l.leaves) (take l.file-index l.files)
