use Rattle.std.proofs.Common.{◌-◌, ◌^◌}
use Rattle.pass_pattern.proofs.Searching.{HasCome}
use Rattle.pass_pattern.proofs.search.search.Given as goal

abbrev pub invariant-loop-next : goal.invariant-loop-next
invariant-loop-next g l = HasCome l.index l.code l.first l.visits.keys l.next l.fn.steps l.steps

-- a set has fewer than 2 ^ 63 values
abbrev pub decreases-loop-next : goal.decreases-loop-next
decreases-loop-next g l = 2 ^ 63 - l.next
