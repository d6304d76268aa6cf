use Rattle.std.proofs.Common.{◌≡◌, length}
use Rattle.std.specs.BTreeSet.{btree_set_len}
use Rattle.pass_leaf.specs.Keeping.{block_total}
use Rattle.pass_audit.specs.Courses.{AreSure}
use Rattle.pass_audit.proofs.borne.are_borne.Given as goal

abbrev pub invariant-loop-block : goal.invariant-loop-block
invariant-loop-block l = record {
  ends : l.end ≡ block_total (length l.content);
  sure : AreSure l.rows l.content l.doubts;
}

abbrev pub decreases-loop-block : goal.decreases-loop-block
decreases-loop-block l = btree_set_len l.doubts
