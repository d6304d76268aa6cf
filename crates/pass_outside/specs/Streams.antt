-- Sources and sinks in memory as contracts see them.
use Rattle.std.specs.Prelude.{ℕ, List, drop, Option, None}
use Rattle.pass_outside.specs.declared.source.MemSource.{MemSource}
use Rattle.pass_outside.specs.declared.sink.MemSink.{MemSink}
use Rattle.pass_outside.specs.Scripts.{Script}

-- the bytes that a source has left
abbrev pub bytes_left : MemSource → List ℕ
bytes_left s = drop s.at s.bytes.items

-- the most bytes that one call of a source moves, where there is such a step
abbrev pub source_step : MemSource → Option ℕ
source_step s = s.step

abbrev pub source_script : MemSource → Script
source_script s = record { fail = s.fail.items; stop = None; calls = s.calls; faults = s.faults; starved = 0 }

-- the bytes that a sink has taken
abbrev pub bytes_taken : MemSink → List ℕ
bytes_taken s = s.taken.items

-- the most bytes that one call of a sink takes, where there is such a step
abbrev pub sink_step : MemSink → Option ℕ
sink_step s = s.step

abbrev pub sink_script : MemSink → Script
sink_script s = record { fail = s.fail.items; stop = None; calls = s.calls; faults = s.faults; starved = s.starved }
