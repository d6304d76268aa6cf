-- What a run has made of a trace so far, and the next entry of a call.
use Rattle.std.specs.Prelude.{ℕ, ◌+◌, ◌==◌, ◌≡◌, ◌≤◌, ◌<◌, true, false, ◌&&◌, Bool, List, [], ◌∷◌, ◌++◌, Some, length, slice_get, if◌then◌else◌}
use Rattle.std.specs.Option.{option_map_or}
use Rattle.pass_entry.specs.declared.entry.Entry.{Entry}
use Rattle.pass_entry.specs.declared.entry.Act.TheVariants as act
use Rattle.pass_entry.specs.declared.entry.CallName.TheVariants as call_name
use Rattle.pass_entry.specs.declared.entry.Reply.TheVariants as answer
use Rattle.pass_entry.specs.declared.objects.Kind.TheVariants as kind
use Rattle.pass_plain.specs.declared.request.Request.{Request}
use Rattle.pass_plain.specs.declared.request.Request.TheVariants as requests
use Rattle.pass_plain.specs.Histories.{call_entries}
use Rattle.pass_plain.specs.Sessions.{Session}
use Rattle.pass_plain.specs.Registries.{registry_after}
use Rattle.pass_plain.specs.Processes.{Process, has_begun, has_ended}
use Rattle.pass_plain.specs.Calls.{Made, name_of, call_steps}
use Rattle.pass_plain.specs.Legal.{is_over}
use Rattle.pass_plain.specs.Traces.{Line, LineCall, given, fork_as, lines_of, calls_of}
use Rattle.pass_plain.specs.Runs.{IsRun, pnode_of_process}

-- the sum of what each line counts, which is told its process, the number of its call and its call
abbrev pub sum_lines : (ℕ → ℕ → LineCall → ℕ) → List Line → List Line → ℕ
sum_lines counts before [] = 0
sum_lines counts before (l ∷ ls) = counts l.process (length (lines_of before l.process) + 1) l.call + sum_lines counts (before ++ l ∷ []) ls

-- how many entries the call of this number of a process has made
abbrev pub entries_made : Session → List Line → List Entry → ℕ → ℕ → ℕ
entries_made session trace history process number =
    option_map_or (λ who. length (call_entries history who number)) (pnode_of_process session trace history process) 0

-- the calls that make an object
abbrev pub creates_call : LineCall → Bool
creates_call (given (requests.Creat fd name)) = true
creates_call (given (requests.MakePipe reader writer)) = true
creates_call (given (requests.MakeObj fd)) = true
creates_call (fork_as child) = true
creates_call _ = false

-- how many lines that make an object have made no entry
abbrev pub creating_left : Session → List Line → List Entry → ℕ
creating_left session trace history =
    sum_lines (λ process number call. if creates_call call && entries_made session trace history process number == 0 then 1 else 0) [] trace

-- A run of a trace so far: its processes have begun, each has a pnode of its own, and has ended where its exit is over;
-- and there is room for what the lines may still make
pub record IsRunSoFar (session : Session) (trace : List Line) (history : List Entry) : Type 0 where
  pub run : IsRun session trace history
  pub some : 0 < length history
  pub begun : (process who : ℕ) → pnode_of_process session trace history process ≡ Some who → has_begun history who ≡ true
  pub ended : (process who : ℕ) → pnode_of_process session trace history process ≡ Some who
      → has_ended history who ≡ is_over history who (length (calls_of trace process))
  pub unborn : (who : ℕ) → has_begun history who ≡ false → has_ended history who ≡ false
  pub single : (p q who : ℕ) → pnode_of_process session trace history p ≡ Some who → pnode_of_process session trace history q ≡ Some who → p ≡ q
  pub room : (registry_after session history).made + creating_left session trace history ≤ session.objects

-- the first entry of a session, by which its first process begins
abbrev pub first_entry : Session → Entry
first_entry session = record { who = 0; number = 0; call = call_name.Start; what = 0; act = act.Mint kind.Process; reply = answer.Made (session.start.ceiling + 1) }

-- the entry is for the next step of the call
pub record IsNextEntry (who number : ℕ) (request : Request) (before : Process) (made : Made) (e : Entry) : Type 0 where
  pub by : e.who ≡ who
  pub counted : e.number ≡ number
  pub call : e.call ≡ name_of request
  pub step : slice_get (call_steps who before made request) (length made) ≡ Some (e.what, e.act)
