use Rattle.std.proofs.Common.{◌≡◌, take}
use Rattle.pass_view.proofs.tags.copied.Given as goal

abbrev pub invariant-loop-attr : goal.invariant-loop-attr
invariant-loop-attr l = l.copy.items ≡ take l.attr-index l.tags
