use Rattle.std.proofs.Common.{◌≡◌, take}
use Rattle.pass_pattern.specs.Visits.{ends_of}
use Rattle.pass_pattern.proofs.finding.ended.Given as goal

abbrev pub invariant-loop-visit : goal.invariant-loop-visit
invariant-loop-visit l = l.nodes.items ≡ ends_of (take l.visit-index l.visits)
