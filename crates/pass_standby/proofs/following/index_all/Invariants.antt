use Rattle.std.proofs.Common.{◌≡◌, ◌++◌, take}
use Rattle.pass_standby.proofs.following.index_all.Given as goal

-- it has the records so far behind its own
abbrev pub invariant-loop-one : goal.invariant-loop-one
invariant-loop-one l = l.index ≡ l.fn.index ++ take l.one-index l.batch
