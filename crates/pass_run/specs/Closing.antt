-- How the run of a trace ends by how its processes ended and how its store was settled. This project's own rule.
use Rattle.std.specs.Prelude.{ℕ, Result, Ok, Err}
use Rattle.pass_answer.specs.declared.answer.CallEnd.{CallEnd}
use Rattle.pass_answer.specs.declared.answer.CallEnd.TheVariants as ends
use Rattle.pass_walk.specs.declared.ends.Last.{Last}
use Rattle.pass_walk.specs.declared.ends.Last.TheVariants as lasts
use Rattle.pass_vault.specs.declared.vault.Receipt.{Receipt}
use Rattle.pass_status.specs.declared.status.Status.{Status}
use Rattle.pass_status.specs.declared.status.Status.TheVariants as status

-- Where all is settled, the run ended as its processes did, and one that failed had found no memory: a fault of the disk comes again
-- as the store is settled. Then the count of faults is this one.
abbrev pub status_of : ℕ → Last → Result Receipt CallEnd → Status
status_of now lasts.Done (Ok receipt) = status.Done
status_of now lasts.Stuck (Ok receipt) = status.Stuck
status_of now (lasts.Failed cause) (Ok receipt) = status.NoMemory
status_of now last (Err (ends.DiskFault opened found)) = status.DiskFault opened now
status_of now last (Err _) = status.NoMemory
