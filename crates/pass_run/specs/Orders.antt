-- In which order the calls of a trace are made, and what a replay hands out. This project's own rule.
use Rattle.std.specs.Prelude.{◌≡◌, ◌≤◌, ◌⊎◌, List, None}
use Rattle.pass_entry.specs.declared.entry.Entry.{Entry}
use Rattle.pass_entry.specs.declared.entry.Synced.{Synced}
use Rattle.pass_entry.specs.declared.record.Record.{Record}
use Rattle.pass_outside.specs.Moments.{Moment}
use Rattle.pass_plain.specs.declared.start.Start.{Start}
use Rattle.pass_replay.specs.Orders.{IsReplay, due}
use Rattle.pass_trace.specs.TraceLines.{plain_trace, session_of_trace}
use Rattle.pass_trace.specs.declared.trace.TraceLine.{TraceLine}
use Rattle.pass_status.specs.declared.status.Status.{Status}
use Rattle.pass_run.specs.Stored.{IsEnd, IsOpening, IsUnopened}
use Rattle.pass_run.specs.declared.order.Order.{Order}
use Rattle.pass_run.specs.declared.order.Order.TheVariants as orders

-- 1 to 64 workers make passes
abbrev pub IsOrder : Order → Type 0
IsOrder (orders.Passes workers) = (1 ≤ workers) × (workers ≤ 64)
IsOrder orders.Lines = Unit {0}

-- The history is a beginning of the replay of the trace from the start that was opened; where the run has come to its end, no call is due: it is the
-- whole replay, of which there is one.
pub record IsReplayedOver (old : Moment) (lines : List TraceLine) (list : List Record) (start : Start) (history : List Entry) (ended : Status) : Type 0 where
  pub opened : Start
  pub opening : IsOpening old list start opened
  pub replay : IsReplay (session_of_trace opened lines) (plain_trace lines) history
  pub whole : IsEnd ended → due (session_of_trace opened lines) (plain_trace lines) history ≡ None

-- nothing was recorded, or a replay was
abbrev pub HasReplayed : Moment → List TraceLine → List Record → Start → List Entry → List Synced → Status → Type 0
HasReplayed old lines list start history syncs ended = IsUnopened list start history syncs ⊎ IsReplayedOver old lines list start history ended
