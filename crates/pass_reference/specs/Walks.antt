-- What a walk over a history has.
use Rattle.std.specs.Prelude.{ℕ, ◌≡◌, ◌<◌, ◌≤◌, ◌+◌, List, length}
use Rattle.pass_entry.specs.Limits as limit
use Rattle.pass_entry.specs.declared.entry.Entry.{Entry}
use Rattle.pass_plain.specs.declared.start.Start.{Start}
use Rattle.pass_plain.specs.Legal.{session_of}
use Rattle.pass_plain.specs.Sessions.{opening_version}
use Rattle.pass_plain.specs.Versions.{version_in, nodes_of}
use Rattle.pass_plain.specs.Recording.{IsRecording}
use Rattle.pass_reference.specs.declared.walk.Walk.{Walk}

-- what a walk over a history has: the nodes of the entries, and their records
pub record IsWalk (start : Start) (history : List Entry) (w : Walk) : Type 0 where
  pub nodes : w.nodes.items ≡ nodes_of (session_of start 0) history
  pub recording : IsRecording start history w.recording
  pub versions : (object : ℕ) → version_in (session_of start 0) (nodes_of (session_of start 0) history) object ≤ limit.number_limit + length history

-- each object begins with a version that a record can have
abbrev pub HasVersions : Start → Type 0
HasVersions start = (object : ℕ) → opening_version start object < limit.number_limit
