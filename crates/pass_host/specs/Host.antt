-- The adapters as contracts see them: counts, and nothing of content.
use Rattle.std.specs.Prelude.{ℕ, Bool, Option, false, []}
use Rattle.pass_outside.specs.Moments.{Moment}
use Rattle.pass_host.specs.declared.disk.HostDisk.{HostDisk}
use Rattle.pass_host.specs.declared.note.Note.{Note}
use Rattle.pass_host.specs.declared.streams.HostSource.{HostSource}
use Rattle.pass_host.specs.declared.streams.HostSink.{HostSink}

abbrev pub host_disk : {F : Type 0} → HostDisk F → Moment
host_disk d = record { tells = false; seen = record { log = []; store = [] }; may_leave = λ c. ⊥; left_since = λ t c. ⊥; calls = d.counts.calls; faults = d.counts.faults }

-- whether its files may be made and written
abbrev pub may_write : {F : Type 0} → HostDisk F → Bool
may_write d = d.may_write

-- what its user should know of the folder
abbrev pub note_in : {F : Type 0} → HostDisk F → Option Note
note_in d = d.note

-- the faults of a source
abbrev pub source_faults : {R : Type 0} → HostSource R → ℕ
source_faults s = s.faults

-- the faults of a sink
abbrev pub sink_faults : {W : Type 0} → HostSink W → ℕ
sink_faults s = s.faults
