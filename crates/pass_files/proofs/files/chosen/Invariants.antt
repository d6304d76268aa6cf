use Rattle.std.proofs.Common.{◌≡◌, take}
use Rattle.std.specs.Prelude.{filter}
use Rattle.pass_files.specs.Tables.{is_kept}
use Rattle.pass_files.proofs.files.chosen.Given as goal

abbrev pub invariant-loop-node : goal.invariant-loop-node
invariant-loop-node l = l.kept.items ≡ filter (is_kept l.index l.choice l.found) (take l.node-index l.nodes)
