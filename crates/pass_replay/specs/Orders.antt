-- In which order a replay makes the calls of a trace: in that of its text, as far as they are ready. This project's own rule.
use Rattle.std.specs.Prelude.{ℕ, ◌+◌, ◌-◌, ◌==◌, ◌≡◌, ◌↔◌, ◌≤◌, ◌<◌, Bool, true, false, not, ◌&&◌, List, [], ◌∷◌, ◌++◌, Option, Some, None, filter, find, is_some, length, take, slice_get, if◌then◌else◌}
use Rattle.std.specs.Option.{option_map_or, option_or}
use Rattle.pass_entry.specs.declared.entry.Entry.{Entry}
use Rattle.pass_plain.specs.Histories.{call_entries}
use Rattle.pass_plain.specs.Sessions.{Session}
use Rattle.pass_plain.specs.Replies.{reply_to}
use Rattle.pass_plain.specs.Legal.{is_over}
use Rattle.pass_plain.specs.Traces.{Line, LineCall, fork_as, lines_of, calls_of}
use Rattle.pass_plain.specs.Runs.{IsRun, next_number, pnode_of_process, steps_at}
use Rattle.pass_replay.specs.Ends.{NoneCanMove, NoneOpen}
use Rattle.pass_replay.specs.Lines.{AreLinesBehind}
use Rattle.pass_replay.specs.Starts.{HasRoom}

-- a call of a trace: a process, and the number of its call; its lines count from 1, and the exit comes behind them
abbrev pub Place : Type 0
Place = ℕ × ℕ

-- the exit of a process that has no line in the rest, behind those before it
abbrev pub exit_in : List Line → List Line → ℕ → List Place
exit_in before rest process = if length (lines_of rest process) == 0 then (process, length (lines_of before process) + 1) ∷ [] else []

-- the exit of the child that a call forks, where that has no lines
abbrev pub child_exit : List Line → LineCall → List Place
child_exit rest (fork_as child) = exit_in [] rest child
child_exit rest _ = []

abbrev pub places_from : List Line → List Line → List Place
places_from before [] = []
places_from before (l ∷ ls) =
    (l.process, length (lines_of before l.process) + 1)
    ∷ (exit_in (before ++ l ∷ []) ls l.process ++ (child_exit ls l.call ++ places_from (before ++ l ∷ []) ls))

-- all calls of a trace in the order of its text: each exit stands directly behind the last line of its process, or behind the fork of one without lines
abbrev pub places_in_order : List Line → List Place
places_in_order trace = exit_in [] trace 1 ++ places_from [] trace

-- the next step of a call is ready
abbrev pub is_step_ready : Session → List Line → List Entry → ℕ → ℕ → LineCall → Bool
is_step_ready session trace history who number call =
    option_map_or (λ s. is_some (reply_to session history s.0 s.1))
    (slice_get (steps_at session trace history who number call) (length (call_entries history who number))) false

-- .. of this process, which stands at that call
abbrev pub is_ready_by : Session → List Line → List Entry → Place → ℕ → Bool
is_ready_by session trace history c who =
    (next_number history who == c.1)
    && option_map_or (is_step_ready session trace history who c.1) (slice_get (calls_of trace c.0) (c.1 - 1)) false

-- the process of a call has begun and stands at it, and its next step is ready
abbrev pub is_ready : Session → List Line → List Entry → Place → Bool
is_ready session trace history c = option_map_or (is_ready_by session trace history c) (pnode_of_process session trace history c.0) false

-- the entry is one of the call
abbrev pub is_entry_of : Session → List Line → List Entry → Entry → Place → Bool
is_entry_of session trace history e c =
    (e.number == c.1) && option_map_or (λ who. e.who == who) (pnode_of_process session trace history c.0) false

-- the call that made the last entry
abbrev pub is_last : Session → List Line → List Entry → Place → Bool
is_last session trace history c = option_map_or (λ e. is_entry_of session trace history e c) (slice_get history (length history - 1)) false

-- The call that makes the next entry: the one that made the last entry, as long as it is ready; else the first of the text that is ready. So a call is
-- made whole, unless it has to wait, and one that waits is gone on with as soon as it is ready and no earlier one is.
abbrev pub due : Session → List Line → List Entry → Option Place
due session trace history =
    let ready = filter (is_ready session trace history) (places_in_order trace) in
    option_or (find (is_last session trace history) ready) (slice_get ready 0)

-- the entry at each place but the first is made by the call that was due
abbrev pub AreDue : Session → List Line → List Entry → Type 0
AreDue session trace history = (i : ℕ) (e : Entry) → 1 ≤ i → slice_get history i ≡ Some e
    → (c : Place) × (due session trace (take i history) ≡ Some c) × (is_entry_of session trace (take i history) e c ≡ true)

-- a beginning of the replay of a trace
pub record IsReplay (session : Session) (trace : List Line) (history : List Entry) : Type 0 where
  pub run : IsRun session trace history
  pub order : AreDue session trace history

-- the whole replay: it has begun, and no call is due
pub record IsWholeReplay (session : Session) (trace : List Line) (history : List Entry) : Type 0 where
  pub replay : IsReplay session trace history
  pub begun : 0 < length history
  pub whole : due session trace history ≡ None

-- two beginnings of the replay have the same entries as far as both go
abbrev pub AgreeLaw : Type 0
AgreeLaw = (session : Session) (trace : List Line) (one other : List Entry) → AreLinesBehind [] trace → IsReplay session trace one → IsReplay session trace other
    → length one ≤ length other → one ≡ take (length one) other

-- so there is one whole replay at most
abbrev pub OneReplayLaw : Type 0
OneReplayLaw = (session : Session) (trace : List Line) (one other : List Entry) → AreLinesBehind [] trace → IsWholeReplay session trace one → IsWholeReplay session trace other
    → one ≡ other

-- the call is over
abbrev pub is_made : Session → List Line → List Entry → Place → Bool
is_made session trace history c = option_map_or (λ who. is_over history who c.1) (pnode_of_process session trace history c.0) false

-- the entry at each place but the first is by the first call of the text that is not over
abbrev pub AreInLine : Session → List Line → List Entry → Type 0
AreInLine session trace history = (i : ℕ) (e : Entry) → 1 ≤ i → slice_get history i ≡ Some e
    → (c : Place) × (find (λ p. not (is_made session trace (take i history) p)) (places_in_order trace) ≡ Some c) × (is_entry_of session trace (take i history) e c ≡ true)

-- a run in which no line waits
pub record IsInLineOrder (session : Session) (trace : List Line) (history : List Entry) : Type 0 where
  pub run : IsRun session trace history
  pub order : AreInLine session trace history

-- where a run can keep to the order of the text, it is the replay
abbrev pub InLineOrderLaw : Type 0
InLineOrderLaw = (session : Session) (trace : List Line) (history : List Entry) → AreLinesBehind [] trace → HasRoom session trace → IsInLineOrder session trace history → IsReplay session trace history

-- no call is due exactly where no process can move
abbrev pub StillLaw : Type 0
StillLaw = (session : Session) (trace : List Line) (history : List Entry) → (due session trace history ≡ None) ↔ NoneCanMove session trace history

-- nor is any where a run has left no process open
abbrev pub EndLaw : Type 0
EndLaw = (session : Session) (trace : List Line) (history : List Entry) → IsRun session trace history → NoneOpen session trace history → due session trace history ≡ None
