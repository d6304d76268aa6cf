use Rattle.std.proofs.Common.{◌≡◌, take}
use Rattle.pass_view.specs.Provs.{programs}
use Rattle.pass_view.proofs.provs.programs.Given as goal

abbrev pub invariant-loop-shown : goal.invariant-loop-shown
invariant-loop-shown l = l.names.keys ≡ programs (take l.shown-index l.nodes)
