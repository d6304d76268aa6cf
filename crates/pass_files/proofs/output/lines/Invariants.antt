use Rattle.std.proofs.Common.{◌≡◌, take}
use Rattle.std.specs.Prelude.{flat_map}
use Rattle.pass_files.specs.Texts.{line_text}
use Rattle.pass_files.proofs.output.lines.Given as goal

abbrev pub invariant-loop-told : goal.invariant-loop-told
invariant-loop-told l = l.out.items ≡ flat_map line_text (take l.told-index l.all)
