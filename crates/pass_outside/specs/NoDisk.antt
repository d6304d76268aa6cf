-- A disk that isn't there: nothing of it is told, no crash leaves anything, and each device call is a fault.
use Rattle.std.specs.Prelude.{false, []}
use Rattle.pass_outside.specs.Moments.{Moment}
use Rattle.pass_outside.specs.declared.no_disk.NoDisk.{NoDisk}

abbrev pub no_disk : NoDisk → Moment
no_disk d = record { tells = false; seen = record { log = []; store = [] }; may_leave = λ c. ⊥; left_since = λ t c. ⊥; calls = d.calls; faults = d.calls }
