use Rattle.std.proofs.Common.{◌≡◌, ◌++◌, take}
use Rattle.std.specs.List.{flat_map}
use Rattle.pass_files.specs.Texts.{tag_text}
use Rattle.pass_files.proofs.output.push_tags.Given as goal

abbrev pub invariant-loop-attr : goal.invariant-loop-attr
invariant-loop-attr l = l.out.items ≡ l.initial.out.items ++ flat_map tag_text (take l.attr-index l.tags)
