-- A write to a pipe that has made its first entry: it may go on, or be left.
use Rattle.std.specs.Prelude.{◌≡◌, ℕ, ◌<◌, ◌≤◌, true, List, [], ◌∷◌, Option, Some, None, length, slice_get, take}
use Rattle.std.specs.FinMap as finite_map
use Rattle.pass_entry.specs.Limits.{transfer_limit}
use Rattle.pass_entry.specs.declared.entry.Entry.{Entry}
use Rattle.pass_entry.specs.declared.entry.Act.TheVariants as act
use Rattle.pass_entry.specs.declared.entry.Ask.TheVariants as ask
use Rattle.pass_entry.specs.declared.entry.CallName.TheVariants as calls
use Rattle.pass_entry.specs.declared.entry.Reply.TheVariants as answer
use Rattle.pass_plain.specs.declared.request.Request.TheVariants as requests
use Rattle.pass_plain.specs.Sessions.{Session}
use Rattle.pass_plain.specs.Processes.{Process, process_after, refusal, is_pipe}
use Rattle.pass_plain.specs.Versions.{nodes_of}
use Rattle.pass_hold.specs.Callings.{IsGoing}
use Rattle.pass_proc.specs.declared.way.Way.{Way}
use Rattle.pass_proc.specs.Acts.{own_entry}

abbrev pub show_entry : ℕ → ℕ → Way → Entry
show_entry who number w = own_entry who number calls.Write (act.Show w.fd (length w.bytes)) answer.Done

-- The process has made the first entry of the write, and may make the next one. It had seen `before` then, or more of the same.
pub record IsUnderWay (session : Session) (who number : ℕ) (before seen : List Entry) (now : Process) (w : Way) : Type 0 where
  pub going : IsGoing session before seen who number (requests.Write w.fd w.bytes) (process_after before who) ((w.out, show_entry who number w) ∷ []) now
  pub free : refusal (process_after before who) (ask.ToWrite w.fd (length w.bytes)) ≡ None
  pub low : w.fd < 64
  pub few : length w.bytes ≤ transfer_limit
  pub held : finite_map.get (process_after before who).descriptors w.fd ≡ Some w.to
  pub pipe : is_pipe w.to ≡ true
  pub within : w.out < length seen
  pub source : slice_get (nodes_of session seen) w.out ≡ Some w.source
  pub holds : finite_map.get now.descriptors w.fd ≡ Some w.to

-- where a write is under way, it began behind what stands before its first entry
abbrev pub IsWay : Session → ℕ → ℕ → List Entry → Process → Option Way → Type 0
IsWay session who number seen now None = Unit {0}
IsWay session who number seen now (Some w) = IsUnderWay session who number (take w.out seen) seen now w
