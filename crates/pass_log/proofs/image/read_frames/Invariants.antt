use Rattle.std.proofs.Common.{length}
use Rattle.std.specs.List.{All}
use Rattle.pass_entry.specs.Ranges.{IsInRange}
use Rattle.pass_log.proofs.Reading.{HasRead}
use Rattle.pass_log.proofs.image.read_frames.Given as goal

abbrev pub invariant-loop-rest : goal.invariant-loop-rest
invariant-loop-rest l = record { whole : HasRead l.bytes l.rest l.list.items; in_range : All IsInRange l.list.items }

abbrev pub decreases-loop-rest : goal.decreases-loop-rest
decreases-loop-rest l = length l.rest
