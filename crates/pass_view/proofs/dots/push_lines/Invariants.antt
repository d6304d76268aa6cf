use Rattle.std.proofs.Common.{◌≡◌, ◌++◌, drop}
use Rattle.pass_view.specs.Dots.{lines_from}
use Rattle.pass_view.proofs.dots.push_lines.Given as goal

abbrev pub invariant-loop-byte : goal.invariant-loop-byte
invariant-loop-byte l = l.out.items ++ lines_from l.left (drop l.byte-index l.text) ≡ l.initial.out.items ++ lines_from 60 l.text
