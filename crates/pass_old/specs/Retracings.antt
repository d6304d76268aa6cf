-- Whether what was run is what the store tells. This project's own rule.
use Rattle.std.specs.Prelude.{ℕ, ◌≡◌, List}
use Rattle.pass_entry.specs.declared.entry.Entry.{Entry}
use Rattle.pass_entry.specs.declared.record.Record.{Record}
use Rattle.pass_plain.specs.declared.start.Start.{Start}
use Rattle.pass_plain.specs.Sound.{IsSound}
use Rattle.pass_plain.specs.Legal.{session_of, IsLegal}

-- the run had the records that were recovered, and its history is one of a session that begins with the start that was recovered
pub record IsLike (recovered run : List Record) (start : Start) (objects : ℕ) (history : List Entry) : Type 0 where
  pub list : recovered ≡ run
  pub sound : IsSound (session_of start objects)
  pub legal : IsLegal (session_of start objects) history
