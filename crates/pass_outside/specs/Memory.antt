-- A disk in memory as contracts see it.
use Rattle.std.specs.Prelude.{List, true}
use Rattle.pass_outside.specs.declared.memory.MemDisk.{MemDisk}
use Rattle.pass_outside.specs.declared.keep.Keep.{Keep}
use Rattle.pass_outside.specs.declared.change.Event.{Event}
use Rattle.pass_outside.specs.Areas.{Image}
use Rattle.pass_outside.specs.Moments.{Moment}
use Rattle.pass_outside.specs.Scripts.{Script}
use Rattle.pass_outside.specs.History.{Past, beginning, after_all}
use Rattle.pass_outside.specs.Keeping.{kept_all}

-- what its changes came to, with these counts
abbrev pub moment_of : Past → Script → Moment
moment_of p s = record { tells = true; seen = p.seen; may_leave = p.may_leave; left_since = p.left_since; calls = s.calls; faults = s.faults }

-- what it began with, and all its changes
abbrev pub history : MemDisk → Image × List Event
history d = (d.first, d.changes.items)

-- what all its changes made of the bytes that it began with
abbrev pub past_of : MemDisk → Past
past_of d = after_all (beginning d.first) d.changes.items

abbrev pub memory_view : MemDisk → Moment
memory_view d = moment_of (past_of d) d.plan

-- which of its device calls fail
abbrev pub disk_script : MemDisk → Script
disk_script d = d.plan

-- the image of a crash that keeps its changes in that way
abbrev pub image_kept : Keep → MemDisk → Image
image_kept keep d = kept_all keep d.first d.changes.items
