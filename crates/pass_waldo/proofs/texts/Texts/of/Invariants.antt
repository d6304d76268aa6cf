use Rattle.std.proofs.Common.{take}
use Rattle.pass_waldo.specs.Index.{AreTexts}
use Rattle.pass_waldo.proofs.texts.Texts.of.Given as goal

abbrev pub invariant-loop-one : goal.invariant-loop-one
invariant-loop-one l = AreTexts (take l.one-index l.records) l.texts
