-- How far the processes of a trace have come.
use Rattle.std.specs.Prelude.{ℕ, ◌+◌, ◌≡◌, ◌==◌, Bool, false, not, ◌&&◌, List, [], ◌∷◌, Option, Some, None, find, fold, length, option_map, codes, ◌++◌, if◌then◌else◌}
use Rattle.std.specs.Fmt.{decimal}
use Rattle.std.specs.Option.{option_map_or, option_or, option_to_list}
use Rattle.std.specs.List.{enumerate_from}
use Rattle.std.specs.Ordering.{nat_cmp}
use Rattle.std.specs.BTreeMap.{get}
use Rattle.std.specs.BTreeSet.{insert_key}
use Rattle.pass_entry.specs.declared.entry.Entry.{Entry}
use Rattle.pass_plain.specs.Sessions.{Session}
use Rattle.pass_plain.specs.Traces.{Line, LineCall, fork_as, lines_of}
use Rattle.pass_plain.specs.Runs.{Begun, pnode_in, first_begun, begun_after, pnode_of_process}
use Rattle.pass_report.specs.Reports.{ascending, trace_processes, forked_by, is_done}
use Rattle.pass_report.specs.declared.calls.Calls.{Calls}
use Rattle.pass_report.specs.CallTables.{ended_by, child_by}
use Rattle.pass_report.specs.declared.standing.Standing.{Standing}

abbrev pub lines_in : Standing → ℕ → ℕ
lines_in s process = option_map_or (λ n. n) (get nat_cmp s.lines process) 0

-- the process that the call of a line begins, by the table of calls
abbrev pub begun_from : Calls → Option ℕ → ℕ → LineCall → Begun
begun_from c (Some parent) number (fork_as child) = if ended_by c parent number then (child, child_by c parent number) ∷ [] else []
begun_from c _ number _ = []

-- one more line was read: it is counted, and begins a process where its fork is answered
pub record ReadsLine (c : Calls) (l : Line) (old new : Standing) : Type 0 where
  pub lines : (process : ℕ) → lines_in new process ≡ (if l.process == process then lines_in old process + 1 else lines_in old process)
  pub processes : new.processes.keys ≡ fold (insert_key nat_cmp) old.processes.keys (option_to_list (forked_by l.call))
  pub begun : (process : ℕ) → get nat_cmp new.begun process
      ≡ option_or (get nat_cmp old.begun process) (pnode_in (begun_from c (get nat_cmp old.begun l.process) (lines_in old l.process + 1) l.call) process)

-- after these lines of a trace
pub record HasRead (session : Session) (history : List Entry) (done : List Line) (s : Standing) : Type 0 where
  pub lines : (process : ℕ) → lines_in s process ≡ length (lines_of done process)
  pub processes : s.processes.keys ≡ ascending nat_cmp (trace_processes done)
  pub begun : (process : ℕ) → get nat_cmp s.begun process ≡ pnode_in (begun_after history (first_begun session history) [] done) process

-- the number of the first of these lines of a process that isn't answered
abbrev pub next_among : Session → List Line → List Entry → List Line → ℕ → Option ℕ
next_among session trace history done process =
    option_map (λ s. s.1.number) (find (λ s. not (is_done session trace history process s.0)) (enumerate_from 1 (lines_of done process)))

-- one more line was looked at: it is counted, and is its process's next one where it is the first that isn't answered
pub record LooksAtLine (is_answered : Bool) (l : Line) (old new : Standing) : Type 0 where
  pub lines : (process : ℕ) → lines_in new process ≡ (if l.process == process then lines_in old process + 1 else lines_in old process)
  pub next : (process : ℕ) → get nat_cmp new.next process
      ≡ option_or (get nat_cmp old.next process) (if l.process == process && not is_answered then Some l.number else None)
  pub processes : new.processes ≡ old.processes
  pub begun : new.begun ≡ old.begun

-- after looking at these lines of a trace, whose processes are known
pub record HasLooked (session : Session) (trace : List Line) (history : List Entry) (done : List Line) (s : Standing) : Type 0 where
  pub lines : (process : ℕ) → lines_in s process ≡ length (lines_of done process)
  pub processes : s.processes.keys ≡ ascending nat_cmp (trace_processes trace)
  pub begun : (process : ℕ) → get nat_cmp s.begun process ≡ pnode_of_process session trace history process
  pub next : (process : ℕ) → get nat_cmp s.next process ≡ next_among session trace history done process

-- a process's call of this number has ended, by the tables
abbrev pub done_by : Calls → Standing → ℕ → ℕ → Bool
done_by c s process number = option_map_or (λ who. ended_by c who number) (get nat_cmp s.begun process) false

-- the line of a process with a line that isn't answered
abbrev pub waiting_text : Standing → ℕ → List ℕ
waiting_text s process =
    option_map_or (λ line. codes "waiting " ++ decimal process ++ codes " " ++ decimal line ++ 10 ∷ []) (get nat_cmp s.next process) []
