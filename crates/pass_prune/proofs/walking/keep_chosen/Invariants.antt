use Rattle.std.proofs.Common.{take}
use Rattle.pass_past.specs.Keepings.{IsKeeping}
use Rattle.pass_prune.specs.Prunings.{chosen_of}
use Rattle.pass_prune.specs.Tables.{is_chosen_by, AreSoFar}
use Rattle.pass_prune.proofs.walking.keep_chosen.Given as goal

abbrev pub invariant-loop-leaf : goal.invariant-loop-leaf
invariant-loop-leaf g l = record {
  contents : AreSoFar l.choice.leaves.now (take l.leaf-index l.choice.leaves.now) l.contents;
  kept : IsKeeping g.F.Disk.view l.initial.old (chosen_of (is_chosen_by l.choice) (take l.leaf-index l.choice.leaves.now)) l.old;
}
