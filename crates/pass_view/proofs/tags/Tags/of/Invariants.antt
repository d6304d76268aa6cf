use Rattle.std.proofs.Common.{take}
use Rattle.pass_view.specs.Facts.{AreTags}
use Rattle.pass_view.proofs.tags.Tags.of.Given as goal

abbrev pub invariant-loop-one : goal.invariant-loop-one
invariant-loop-one l = AreTags (take l.one-index l.records) l.tags
