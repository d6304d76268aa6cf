use Rattle.std.proofs.Common.{drop}
use Rattle.std.specs.HashSet.{contains}
use Rattle.pass_plain.specs.Versions.{same_node}
use Rattle.pass_files.proofs.Passes.{AreBack}
use Rattle.pass_files.proofs.flows.flowing_back.Given as goal

abbrev pub invariant-loop-place : goal.invariant-loop-place
invariant-loop-place l = AreBack l.records (drop l.place l.records) l.first (contains same_node l.found)
