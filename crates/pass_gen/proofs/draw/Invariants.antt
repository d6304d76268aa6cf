use Rattle.std.proofs.Common.{◌≡◌, ◌++◌}
use Rattle.pass_gen.specs.Generated.{drawn, drawn_lines}
use Rattle.pass_gen.proofs.draw.Given as goal

abbrev pub invariant-loop-place : goal.invariant-loop-place
invariant-loop-place l =
    (l.generator ≡ drawn l.fn.number l.place) × (l.lines.items ≡ l.initial.lines.items ++ drawn_lines l.fn.number l.place)
