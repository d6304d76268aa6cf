use Rattle.std.proofs.Common.{◌≡◌, take}
use Rattle.std.specs.Prelude.{None, bytes_eq}
use Rattle.std.specs.List.{find}
use Rattle.pass_view.proofs.labels.value_among.Given as goal

abbrev pub invariant-loop-name : goal.invariant-loop-name
invariant-loop-name l = find (λ t. bytes_eq t.0 l.attr) (take l.name-index l.tags) ≡ None
