use Rattle.std.proofs.Common.{◌≡◌, ℕ, length, take}
use Rattle.std.specs.Ordering.{nat_cmp}
use Rattle.std.specs.BTreeMap.{get, btree_map_len}
use Rattle.pass_range.specs.Rows.{files_of}
use Rattle.pass_range.specs.Tables.{file_of}
use Rattle.pass_range.proofs.table.files_of.Given as goal

abbrev pub invariant-loop-one : goal.invariant-loop-one
invariant-loop-one l = record {
  len : btree_map_len l.files ≡ length (files_of (take l.one-index l.list));
  files : (pnode : ℕ) → get nat_cmp l.files pnode ≡ file_of (take l.one-index l.list) pnode;
}
