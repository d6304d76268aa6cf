use Rattle.std.proofs.Common.{take}
use Rattle.pass_graph.specs.Check.{IsRankingOf}
use Rattle.pass_graph.proofs.checking.check.Given as goal

abbrev pub invariant-loop-place : goal.invariant-loop-place
invariant-loop-place l = IsRankingOf (take l.place l.list) l.ranking
