use Rattle.std.proofs.Common.{◌≡◌, take}
use Rattle.pass_recipe.specs.Texts.{recipe_text}
use Rattle.pass_recipe.proofs.output.to_text.Given as goal

abbrev pub invariant-loop-made : goal.invariant-loop-made
invariant-loop-made l = l.out.items ≡ recipe_text (take l.made-index l.entries)
