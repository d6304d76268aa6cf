use Rattle.std.proofs.Common.{◌≡◌, ◌++◌, map, take}
use Rattle.pass_trace.specs.Texts.{spaced}
use Rattle.pass_trace.proofs.printing.push_names.Given as goal

abbrev pub invariant-loop-name : goal.invariant-loop-name
invariant-loop-name l =
    l.out.items ≡ l.initial.out.items ++ spaced (map (λ n. n.now) (take l.name-index l.names))
