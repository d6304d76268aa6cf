use Rattle.std.proofs.Common.{take}
use Rattle.std.specs.HashSet.{contains}
use Rattle.pass_plain.specs.Versions.{same_node}
use Rattle.pass_files.proofs.Passes.{AreOn}
use Rattle.pass_files.proofs.flows.flowing_on.Given as goal

abbrev pub invariant-loop-one : goal.invariant-loop-one
invariant-loop-one l = AreOn l.records (take l.one-index l.records) l.first (contains same_node l.found)
