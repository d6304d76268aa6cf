use Rattle.std.proofs.Common.{◌≡◌, ◌≤◌, List, length, vec_capacity}
use Rattle.std.specs.Prelude.{max}
use Rattle.pass_entry.specs.declared.record.Record.{Record}
use Rattle.pass_book.specs.Shedding.{shed}
use Rattle.pass_book.proofs.book.shed_slips.Given as goal

abbrev pub invariant-loop-place : goal.invariant-loop-place
invariant-loop-place l = record {
  below : l.place ≤ max l.from l.upto;
  length : length l.slips.items ≡ length l.initial.slips.items;
  slips : (lists : List (List Record)) → l.initial.slips.items ≡ shed l.from lists → l.slips.items ≡ shed l.place lists;
  capacity : vec_capacity l.slips ≡ vec_capacity l.initial.slips;
}
