use Rattle.std.proofs.Common.{◌≡◌, ◌-◌, ◌≤◌, length, take, drop}
use Rattle.pass_outside.specs.declared.blocks.TheConstants.{BLOCK}
use Rattle.pass_outside.specs.Blocks.{flat}
use Rattle.pass_outside.proofs.blocks.read_blocks.Given as goal

abbrev pub invariant-pieces : goal.invariant-pieces
invariant-pieces l = record {
  within : l.done ≤ length l.into;
  read : take l.done l.into ≡ take l.done (drop l.at (flat BLOCK l.blocks));
}

abbrev pub decreases-pieces : goal.decreases-pieces
decreases-pieces l = length l.into - l.done
