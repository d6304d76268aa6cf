-- Which histories are runs of a trace, and which of its processes are open and can move. This project's own rule.
use Rattle.std.specs.Prelude.{ℕ, ◌+◌, ◌-◌, ◌≤◌, ◌<◌, ◌==◌, ◌≡◌, Bool, true, not, List, [], ◌∷◌, ◌++◌, Option, Some, find, map, take, length, slice_get, if◌then◌else◌, Contains, option_map}
use Rattle.std.specs.Option.{option_map_or}
use Rattle.pass_entry.specs.declared.entry.Entry.{Entry}
use Rattle.pass_entry.specs.declared.entry.Reply.{Reply}
use Rattle.pass_plain.specs.declared.request.Request.{Request}
use Rattle.pass_plain.specs.Histories.{call_entries}
use Rattle.pass_plain.specs.Sessions.{Session}
use Rattle.pass_plain.specs.Processes.{has_begun}
use Rattle.pass_plain.specs.Replies.{reply_to}
use Rattle.pass_plain.specs.Calls.{Step, call_steps, pnode_at}
use Rattle.pass_plain.specs.Legal.{IsLegal, before_call, is_over, last_number, step_of}
use Rattle.pass_plain.specs.Traces.{Line, LineCall, fork_as, name_of_call, request_of, lines_of, calls_of}

-- the processes of a trace that have begun: each with its number in the trace and its pnode
abbrev pub Begun : Type 0
Begun = List (ℕ × ℕ)

abbrev pub pnode_in : Begun → ℕ → Option ℕ
pnode_in begun process = option_map (λ b. b.1) (find (λ b. b.0 == process) begun)

-- the first process of a session begins it
abbrev pub first_begun : Session → List Entry → Begun
first_begun session [] = []
first_begun session (e ∷ es) = (1, session.start.ceiling + 1) ∷ []

-- the process of a fork that was answered: `parent` made it by its call of this number
abbrev pub forked : List Entry → ℕ → ℕ → ℕ → Begun
forked history child parent number =
    if is_over history parent number then (child, pnode_at (call_entries history parent number) 0) ∷ [] else []

-- the process that the call of a line begins: `parent` is the caller, and the call has this number
abbrev pub begun_by_call : List Entry → Option ℕ → ℕ → LineCall → Begun
begun_by_call history (Some parent) number (fork_as child) = forked history child parent number
begun_by_call history _ number _ = []

-- the process that a line begins, after the processes `begun` and the lines `before`
abbrev pub begun_at : List Entry → Begun → List Line → Line → Begun
begun_at history begun before l = begun_by_call history (pnode_in begun l.process) (length (lines_of before l.process) + 1) l.call

abbrev pub begun_after : List Entry → Begun → List Line → List Line → Begun
begun_after history begun before [] = begun
begun_after history begun before (l ∷ ls) = begun_after history (begun ++ begun_at history begun before l) (before ++ l ∷ []) ls

-- the processes of the trace that have begun in the history: process 1 by the session's first entry, each other by its fork
abbrev pub begun_of : Session → List Line → List Entry → Begun
begun_of session trace history = begun_after history (first_begun session history) [] trace

abbrev pub pnode_of_process : Session → List Line → List Entry → ℕ → Option ℕ
pnode_of_process session trace history process = pnode_in (begun_of session trace history) process

-- the request of the call of this number of a process, where its line is given
abbrev pub request_at : Session → List Line → List Entry → ℕ → ℕ → LineCall → Request
request_at session trace history who number call =
    request_of (λ process. option_map_or (λ pnode. pnode) (pnode_of_process session trace history process) 0)
    (before_call history who number).last_read call

-- all steps of the call of this number
abbrev pub steps_at : Session → List Line → List Entry → ℕ → ℕ → LineCall → List Step
steps_at session trace history who number call =
    call_steps who (before_call history who number) (call_entries history who number) (request_at session trace history who number call)

-- a history is a run of a trace: each process in it is one of the trace, and its calls are its lines in order, with their
-- names and arguments, then exit; its last call may lack steps, and no other
pub record IsRun (session : Session) (trace : List Line) (history : List Entry) : Type 0 where
  pub legal : IsLegal session history
  pub traced : (who : ℕ) → has_begun history who ≡ true → (process : ℕ) × (pnode_of_process session trace history process ≡ Some who)
  pub lines : (process who number : ℕ) (call : LineCall) → pnode_of_process session trace history process ≡ Some who
      → slice_get (calls_of trace process) number ≡ Some call
      → map step_of (call_entries history who (number + 1))
      ≡ take (length (call_entries history who (number + 1))) (steps_at session trace history who (number + 1) call)
  pub named : (process who number : ℕ) (call : LineCall) → pnode_of_process session trace history process ≡ Some who
      → slice_get (calls_of trace process) number ≡ Some call
      → (j : ℕ) (s : ℕ × Entry) → slice_get (call_entries history who (number + 1)) j ≡ Some s → s.1.call ≡ name_of_call call
  pub whole : (who number : ℕ) → has_begun history who ≡ true → 1 ≤ number → number < last_number history who → is_over history who number ≡ true
  pub last : (process who : ℕ) → pnode_of_process session trace history process ≡ Some who
      → last_number history who ≤ length (calls_of trace process)

-- the trace has this process: process 1, or one that a line forks
pub data IsOfTrace (trace : List Line) : ℕ → Type 0 where
  first : IsOfTrace trace 1
  forked_by : (l : Line) (child : ℕ) → Contains trace l → l.call ≡ fork_as child → IsOfTrace trace child

-- a line of the process isn't answered, or its exit isn't made
abbrev pub is_open : Session → List Line → List Entry → ℕ → Bool
is_open session trace history process =
    option_map_or (λ who. not (is_over history who (length (calls_of trace process)))) (pnode_of_process session trace history process) true

-- the number of the call that a process is in, or of its next one
abbrev pub next_number : List Entry → ℕ → ℕ
next_number history who =
    let last = last_number history who in
    if last == 0 then 1 else if is_over history who last then last + 1 else last

-- the process has begun, and the next step of its next call is ready
pub record CanMove (session : Session) (trace : List Line) (history : List Entry) (process : ℕ) : Type 0 where
  pub who : ℕ
  pub begun : pnode_of_process session trace history process ≡ Some who
  pub call : LineCall
  pub next : slice_get (calls_of trace process) (next_number history who - 1) ≡ Some call
  pub step : Step
  pub stands : slice_get (steps_at session trace history who (next_number history who) call) (length (call_entries history who (next_number history who))) ≡ Some step
  pub reply : Reply
  pub ready : reply_to session history step.0 step.1 ≡ Some reply
