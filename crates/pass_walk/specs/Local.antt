-- What is known of a living process of a run. This project's own rule.
use Rattle.std.specs.Prelude.{ℕ, ◌+◌, ◌≡◌, ◌<◌, false, List, length}
use Rattle.pass_entry.specs.declared.entry.Entry.{Entry}
use Rattle.pass_plain.specs.Processes.{has_ended}
use Rattle.pass_plain.specs.Traces.{Line, calls_of}
use Rattle.pass_plain.specs.Runs.{next_number}
use Rattle.pass_replay.specs.Members.{KnowsChildren, MakesSteps}

-- a living process has made `done` calls, its lines in order, and knows its children by `pnode`
pub record IsLocal (trace : List Line) (process who : ℕ) (seen : List Entry) (done : ℕ) (pnode : ℕ → ℕ) : Type 0 where
  pub makes : MakesSteps trace process who seen
  pub next : next_number seen who ≡ done + 1
  pub living : has_ended seen who ≡ false
  pub knows : KnowsChildren trace seen process who done pnode
  pub within : done < length (calls_of trace process)
