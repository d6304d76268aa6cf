-- What a walk over a history knows at an entry, and at its end.
use Rattle.std.specs.Prelude.{ℕ, ◌≡◌, Bool, List}
use Rattle.std.specs.BTreeSet.{BTreeSet}
use Rattle.pass_entry.specs.declared.entry.Entry.{Entry}
use Rattle.pass_entry.specs.declared.objects.Node.{Node}
use Rattle.pass_plain.specs.declared.start.Start.{Start}
use Rattle.pass_plain.specs.declared.records.Recording.{Recording}
use Rattle.pass_plain.specs.Legal.{session_of}
use Rattle.pass_plain.specs.Recording.{IsRecording}
use Rattle.pass_plain.specs.Versions.{nodes_of, is_freeze, version_after}
use Rattle.pass_plain.specs.Registries.{registry_after}
use Rattle.pass_past.specs.declared.phases.Walked.{Walked}
use Rattle.pass_past.specs.Pasts.{file_numbers}
use Rattle.pass_report.specs.Trails.{IsTrail}

-- the numbers of the files after a history
abbrev pub AreFiles : Start → List Entry → BTreeSet ℕ → Type 0
AreFiles start history files = files.keys ≡ file_numbers (registry_after (session_of start 0) history).objects

-- what is known as an entry comes: the node of its object till then, and whether the entry freezes it
pub record IsEnding (start : Start) (past : List Entry) (recording : Recording) (files : BTreeSet ℕ) (node : Node) (freezes : Bool) (e : Entry) : Type 0 where
  pub recorded : IsRecording start past recording
  pub files_are : AreFiles start past files
  pub object : node.pnode ≡ e.what
  pub version : node.version ≡ version_after (session_of start 0) past e.what
  pub freeze : freezes ≡ is_freeze (session_of start 0) past (nodes_of (session_of start 0) past) e

-- the walk has come to the end of the history
pub record IsWalked (start : Start) (history : List Entry) (walked : Walked) : Type 0 where
  pub trail : IsTrail start (session_of start 0) history walked.trail
  pub recording : IsRecording start history walked.recording
  pub files : AreFiles start history walked.files
