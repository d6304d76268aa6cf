use Rattle.std.proofs.Common.{◌≡◌, ◌≤◌, ◌-◌, ◌++◌, take, drop}
use Rattle.pass_table.proofs.blocks.Blocks.read_into.Given as goal

abbrev pub invariant-pieces : goal.invariant-pieces
invariant-pieces l = record {
  within : l.done ≤ l.count;
  read : l.into ≡ take l.done (drop l.at l.self.bytes) ++ drop l.done l.fn.into;
}

abbrev pub decreases-pieces : goal.decreases-pieces
decreases-pieces l = l.count - l.done
