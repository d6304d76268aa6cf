-- Which entries may come next, and which histories are legal.
use Rattle.std.specs.Prelude.{ℕ, ◌+◌, ◌-◌, ◌==◌, ◌≡◌, Bool, true, false, not, ◌&&◌, ◌||◌, List, [], ◌∷◌, ◌++◌, Some, length, map, fold, take, slice_get, if◌then◌else◌}
use Rattle.std.specs.Option.{option_map_or}
use Rattle.std.specs.List.{before_first}
use Rattle.pass_entry.specs.declared.entry.Entry.{Entry}
use Rattle.pass_entry.specs.declared.entry.Act.{Act}
use Rattle.pass_entry.specs.declared.entry.Act.TheVariants as act
use Rattle.pass_entry.specs.declared.entry.CallName.{CallName}
use Rattle.pass_entry.specs.declared.entry.CallName.TheVariants as call
use Rattle.pass_plain.specs.Histories.{is_of_call, call_entries}
use Rattle.pass_plain.specs.Sessions.{Session}
use Rattle.pass_plain.specs.declared.start.Start.{Start}
use Rattle.pass_plain.specs.Processes.{Process, process_after, has_begun, has_ended, is_pipe}
use Rattle.pass_plain.specs.Replies.{reply_to}
use Rattle.pass_plain.specs.declared.request.Request.{Request}
use Rattle.pass_plain.specs.Calls.{name_of, is_within, Step, Made, call_steps, descriptor_at, is_last}

abbrev pub is_start : CallName → Bool
is_start call.Start = true
is_start _ = false

-- the state of a process just before the first entry of its call of this number
abbrev pub before_call : List Entry → ℕ → ℕ → Process
before_call history who number = process_after (before_first (is_of_call who number) history) who

-- the last of a call's entries ends it. `p` is the state of the process before the call
abbrev pub ends_call : Process → Made → Bool
ends_call p made = option_map_or (λ s. is_last p s.1) (slice_get made (length made - 1)) false

-- the call of this number has ended
abbrev pub is_over : List Entry → ℕ → ℕ → Bool
is_over history who number = ends_call (before_call history who number) (call_entries history who number)

-- the first entry of a pipe write, or of a sync
abbrev pub is_left_act : Process → CallName → Act → Bool
is_left_act p call.Write (act.Show fd len) = is_pipe (descriptor_at p fd)
is_left_act p call.Sync act.Keep = true
is_left_act p _ _ = false

-- the one entry of a call lets the call be left
abbrev pub leaves_call : Process → Made → Bool
leaves_call p (s ∷ []) = is_left_act p s.1.call s.1.act
leaves_call p _ = false

-- the call of this number may be left with the one entry that it has made
abbrev pub may_be_left : List Entry → ℕ → ℕ → Bool
may_be_left history who number = leaves_call (before_call history who number) (call_entries history who number)

-- the number of the last call of a process, 0 where it has made none
abbrev pub last_number : List Entry → ℕ → ℕ
last_number history who = fold (λ n e. if e.who == who then e.number else n) 0 history

-- a number goes on with the last call, which has not ended, or begins the next one. `last` is 0 where there is no call
abbrev pub goes_on : ℕ → ℕ → Bool → Bool → Bool
goes_on number last over left =
    if number == last then not (last == 0) && not over else number == last + 1 && (last == 0 || over || left)

-- the number goes on with the process's last call, or begins its next one
abbrev pub is_next_number : List Entry → Entry → Bool
is_next_number history e =
    let last = last_number history e.who in
    goes_on e.number last (is_over history e.who last) (may_be_left history e.who last)

abbrev pub is_empty : List Entry → Bool
is_empty [] = true
is_empty (e ∷ es) = false

-- the caller of the entry may act: it is the outside and begins the history, or a process that has begun and has not ended
abbrev pub may_act : List Entry → Entry → Bool
may_act history e =
    if is_start e.call then is_empty history && e.who == 0 && e.number == 0
    else has_begun history e.who && not (has_ended history e.who) && is_next_number history e

abbrev pub step_of : ℕ × Entry → Step
step_of s = (s.1.what, s.1.act)

-- after the entries that a call has made, the step is its next one: with them it is the first steps of one call of that
-- name, with arguments within their limits. `p` is the state of the caller `who` before the call
pub record IsNextStep (who : ℕ) (p : Process) (made : Made) (name : CallName) (next : Step) : Type 0 where
  pub request : Request
  pub named : name_of request ≡ name
  pub within : is_within request ≡ true
  pub called : (j : ℕ) (s : ℕ × Entry) → slice_get made j ≡ Some s → s.1.call ≡ name
  pub steps : take (length made + 1) (call_steps who p made request) ≡ map step_of made ++ next ∷ []

-- what the object of an entry allows after the entries of `seen`: the reply is the object's
abbrev pub ObjectAllows : Session → List Entry → Entry → Type 0
ObjectAllows session seen e = reply_to session seen e.what e.act ≡ Some e.reply

-- what the caller of an entry allows after the entries of `seen`: it may act, and the act is the next step of its call
pub record CallerAllows (seen : List Entry) (e : Entry) : Type 0 where
  pub acts : may_act seen e ≡ true
  pub step : IsNextStep e.who (before_call seen e.who e.number) (call_entries seen e.who e.number) e.call (e.what, e.act)

-- the entry may come next after the history
pub record MayFollow (session : Session) (history : List Entry) (e : Entry) : Type 0 where
  pub replied : reply_to session history e.what e.act ≡ Some e.reply
  pub acts : may_act history e ≡ true
  pub step : IsNextStep e.who (before_call history e.who e.number) (call_entries history e.who e.number) e.call (e.what, e.act)

-- each entry may come next after those before it
abbrev pub IsLegal : Session → List Entry → Type 0
IsLegal session history = (i : ℕ) (e : Entry) → slice_get history i ≡ Some e → MayFollow session (take i history) e

-- what a session opened with, and its history so far
pub record Past : Type 0 where
  pub session : Session
  pub history : List Entry

abbrev pub session_of : Start → ℕ → Session
session_of start objects = record { start = start; objects = objects }
