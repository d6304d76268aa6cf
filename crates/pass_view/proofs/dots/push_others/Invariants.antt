use Rattle.std.proofs.Common.{◌≡◌, ◌++◌, take}
use Rattle.pass_view.specs.Dots.{other_lines}
use Rattle.pass_view.proofs.dots.push_others.Given as goal

abbrev pub invariant-loop-shown : goal.invariant-loop-shown
invariant-loop-shown l = l.out.items ≡ l.initial.out.items ++ other_lines (take l.shown-index l.nodes)
