use Rattle.std.proofs.Common.{◌≡◌, ◌<◌, ◌-◌, ◌++◌}
use Rattle.pass_plain.specs.Ceilings.{ceilings_between}
use Rattle.pass_plain.proofs.ceilings.ceilings_between.Given as goal

abbrev pub invariant-steps : goal.invariant-steps
invariant-steps l = record {
  low : l.ceiling < l.fn.to;
  records : l.records.items ++ ceilings_between l.ceiling l.fn.to ≡ ceilings_between l.fn.from l.fn.to;
}

abbrev pub decreases-steps : goal.decreases-steps
decreases-steps l = l.fn.to - l.ceiling
