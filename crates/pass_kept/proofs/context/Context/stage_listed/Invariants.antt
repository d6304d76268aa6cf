use Rattle.std.proofs.Common.{◌≤◌}
use Rattle.std.specs.BTreeSet.{btree_set_len}
use Rattle.pass_kept.proofs.context.Context.stage_listed.Given as goal

abbrev pub invariant-loop-file : goal.invariant-loop-file
invariant-loop-file g l = l.staged ≤ l.limit

abbrev pub decreases-loop-file : goal.decreases-loop-file
decreases-loop-file g l = btree_set_len l.files
