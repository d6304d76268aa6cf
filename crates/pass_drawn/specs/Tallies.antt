-- The counts of a walk over a history, in which no call closes a descriptor.
use Rattle.std.specs.Prelude.{◌≡◌, Bool, not, ◌&&◌, List, count_by, sum_by, if◌then◌else◌}
use Rattle.pass_entry.specs.declared.entry.Entry.{Entry}
use Rattle.pass_plain.specs.Histories.{is_fault}
use Rattle.pass_plain.specs.Processes.{new_process}
use Rattle.pass_plain.specs.Calls.{is_last}
use Rattle.pass_plain.specs.Legal.{is_start}
use Rattle.pass_drawn.specs.Texts.{is_write, length_written}
use Rattle.pass_drawn.specs.declared.reporting.Tally.{Tally}

-- the entry ends a call that a process made. But for a close the state of the process doesn't matter
abbrev pub ends : Entry → Bool
ends e = not (is_start e.call) && is_last new_process e

abbrev pub wrote : Entry → Bool
wrote e = ends e && (is_write e.call && not (is_fault e.reply))

-- the counts are those of the entries
pub record IsTally (history : List Entry) (t : Tally) : Type 0 where
  pub calls : t.calls ≡ count_by ends history
  pub writes : t.writes ≡ count_by wrote history
  pub bytes : t.bytes ≡ sum_by (λ e. if wrote e then length_written e.act else 0) history
