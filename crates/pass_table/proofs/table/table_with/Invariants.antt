use Rattle.std.proofs.Common.{◌≡◌, ◌*◌, length, take}
use Rattle.pass_plain.specs.Files.{extended}
use Rattle.pass_table.specs.Tables.{flat, AreWhole}
use Rattle.pass_table.proofs.table.table_with.Given as goal

abbrev pub invariant-loop-block : goal.invariant-loop-block
invariant-loop-block l = record {
  whole : AreWhole 4096 l.table.items;
  count : length l.table.items ≡ l.block;
  flat : flat l.table.items ≡ extended (take (l.block * 4096) l.bytes) (l.block * 4096);
}
