use Rattle.std.proofs.Common.{◌≡◌, ◌≤◌, ◌-◌, length, vec_len, vec_capacity}
use Rattle.pass_plain.specs.Files.{extended}
use Rattle.pass_table.specs.Tables.{flat, AreWhole}
use Rattle.pass_table.proofs.table.fill_up.Given as goal

abbrev pub invariant-more : goal.invariant-more
invariant-more l = record {
  whole : AreWhole 4096 l.table.items;
  most : length l.table.items ≤ 1024;
  grows : length l.fn.table.items ≤ length l.table.items;
  room : l.count ≤ vec_capacity l.table;
  longer : length (flat l.fn.table.items) ≤ length (flat l.table.items);
  flat : flat l.table.items ≡ extended (flat l.fn.table.items) (length (flat l.table.items));
}

abbrev pub decreases-more : goal.decreases-more
decreases-more l = l.count - vec_len l.table
