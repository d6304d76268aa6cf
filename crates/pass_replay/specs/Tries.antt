-- What the tries of calls, one after the other, make of a run. This project's own rule.
use Rattle.std.specs.Prelude.{ℕ, ◌+◌, ◌≡◌, ◌⊎◌, ◌≤◌, ◌<◌, true, false, List, Some, Contains, length, slice_get}
use mathlib.Core.List.{IsPrefix}
use Rattle.pass_entry.specs.declared.entry.Entry.{Entry}
use Rattle.pass_plain.specs.Legal.{is_over}
use Rattle.pass_plain.specs.Runs.{next_number, pnode_of_process}
use Rattle.pass_plain.specs.Sessions.{Session}
use Rattle.pass_plain.specs.Traces.{Line}
use Rattle.pass_replay.specs.Members.{Member, Waits}
use Rattle.pass_replay.specs.Orders.{IsReplay, Place, places_in_order}
use Rattle.pass_replay.specs.Replays.{HasRun}

-- a try of the next call of a process: by whom, and what it had seen before and after
pub record Try : Type 0 where
  pub process : ℕ
  pub who : ℕ
  pub before : List Entry
  pub after : List Entry

-- the number of the call that was tried
abbrev pub number_of : Try → ℕ
number_of t = next_number t.before t.who

-- the process had begun, and saw more
pub record IsTry (session : Session) (trace : List Line) (t : Try) : Type 0 where
  pub begun : pnode_of_process session trace t.before t.process ≡ Some t.who
  pub more : IsPrefix t.before t.after

-- a member has seen what the try's process had seen
pub record IsSeenBy (members : List Member) (t : Try) : Type 0 where
  pub member : Member
  pub among : Contains members member
  pub begins : IsPrefix t.after member.seen

-- the entry at this place was made in a try of its process, by the call that was tried
pub record IsMadeIn (tries : List Try) (n : ℕ) (e : Entry) : Type 0 where
  pub place : ℕ
  pub made_in : Try
  pub stands : slice_get tries place ≡ Some made_in
  pub by : e.who ≡ made_in.who
  pub counted : e.number ≡ number_of made_in
  pub from : length made_in.before ≤ n
  pub upto : n < length made_in.after

-- a try that ends with its call over, or with one that waits
abbrev pub HasRested : Session → List Line → Try → Type 0
HasRested session trace t =
    (is_over t.after t.who (number_of t) ≡ true) ⊎ Waits session trace (record { process = t.process; who = t.who; seen = t.after; ended = false })

-- before this try one of that process was made and waits, and none between them made an entry
pub record HasWaited (session : Session) (trace : List Line) (tries : List Try) (i process who : ℕ) : Type 0 where
  pub place : ℕ
  pub earlier : place < i
  pub tried : Try
  pub stands : slice_get tries place ≡ Some tried
  pub of : tried.process ≡ process
  pub by : tried.who ≡ who
  pub waits : Waits session trace (record { process = process; who = who; seen = tried.after; ended = false })
  pub still : (k : ℕ) (t : Try) → place < k → k < i → slice_get tries k ≡ Some t → length t.after ≤ length t.before

-- a call before this one in the text, of a process that stands at it, was tried and waits
abbrev pub IsFirstTried : Session → List Line → List Try → ℕ → Try → Type 0
IsFirstTried session trace tries i t = (j k : ℕ) (c : Place) (who : ℕ) → slice_get (places_in_order trace) k ≡ Some (t.process, number_of t) → slice_get (places_in_order trace) j ≡ Some c → j < k
    → pnode_of_process session trace t.before c.0 ≡ Some who → next_number t.before who ≡ c.1 → HasWaited session trace tries i c.0 who

-- Tries one after the other: each has seen what the one before had, all entries of the members were made in them, all but the last came to rest,
-- and where one made an entry all calls before it in the text had been tried and wait.
pub record AreTries (session : Session) (trace : List Line) (members : List Member) (tries : List Try) : Type 0 where
  pub each : (i : ℕ) (t : Try) → slice_get tries i ≡ Some t → IsTry session trace t × IsSeenBy members t
  pub chain : (i : ℕ) (t u : Try) → slice_get tries i ≡ Some t → slice_get tries (i + 1) ≡ Some u → IsPrefix t.after u.before
  pub own : (m : Member) → Contains members m → (n : ℕ) (e : Entry) → slice_get m.seen n ≡ Some e → e.who ≡ m.who → IsMadeIn tries n e
  pub rests : (i : ℕ) (t : Try) → slice_get tries i ≡ Some t → i + 1 < length tries → HasRested session trace t
  pub placed : (i : ℕ) (t : Try) → slice_get tries i ≡ Some t → (k : ℕ) × (slice_get (places_in_order trace) k ≡ Some (t.process, number_of t))
  pub first : (i : ℕ) (t : Try) → slice_get tries i ≡ Some t → length t.before < length t.after → IsFirstTried session trace tries i t

-- a run whose calls were made in such tries is a replay
abbrev pub TriesLaw : Type 0
TriesLaw = (session : Session) (trace : List Line) (members : List Member) (history : List Entry) (tries : List Try) → HasRun session trace members history
    → AreTries session trace members tries → IsReplay session trace history
