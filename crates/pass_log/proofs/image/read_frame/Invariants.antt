use Rattle.std.proofs.Common.{◌≡◌, length}
use Rattle.std.specs.List.{All}
use Rattle.pass_entry.specs.Ranges.{IsInRange}
use Rattle.pass_log.specs.Records.{joined, records_in}
use Rattle.pass_log.proofs.image.read_frame.Given as goal

-- the records so far and those of the rest are all of them, and each one read is within its ranges
abbrev pub invariant-loop-rest : goal.invariant-loop-rest
invariant-loop-rest l = record {
  whole : joined l.list.items (records_in 0 (length l.list.items) l.rest) ≡ joined l.initial.list.items (records_in 0 (length l.initial.list.items) l.frame);
  in_range : All IsInRange l.initial.list.items → All IsInRange l.list.items;
}

abbrev pub decreases-loop-rest : goal.decreases-loop-rest
decreases-loop-rest l = length l.rest
