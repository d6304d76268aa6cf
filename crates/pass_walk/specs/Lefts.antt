-- How many turns are left from a line on: one for each line of its process, one for the exit, and those of the children that its lines fork. This project's own rule.
use Rattle.std.specs.Prelude.{ℕ, ◌+◌, ◌==◌, ◌≡◌, ◌≤◌, List, [], ◌∷◌, Option, Some, None, drop, slice_get, vec_capacity, if◌then◌else◌}
use Rattle.std.specs.Global.{Vec}
use Rattle.pass_plain.specs.Traces.{Line, LineCall, given, write_last, fork_as, wait_for, await_for}

-- those of the child that a call forks
abbrev pub of_child : (ℕ → ℕ) → LineCall → ℕ
of_child left (fork_as child) = left child
of_child left (given r) = 0
of_child left (write_last fd) = 0
of_child left (wait_for child) = 0
of_child left (await_for child) = 0

abbrev pub left_in : List Line → ℕ → ℕ
left_in [] process = 1
left_in (l ∷ ls) process = if l.process == process then 1 + of_child (λ p. left_in ls p) l.call + left_in ls process else left_in ls process

-- from the next line of a process on; only the exit is left where it has none
abbrev pub left_at : List Line → ℕ → Option ℕ → ℕ
left_at trace process (Some place) = left_in (drop place trace) process
left_at trace process None = 1

-- for each line, how many are left to its process from it on
abbrev pub AreLefts : List Line → List ℕ → Type 0
AreLefts trace lefts = (place : ℕ) (l : Line) → slice_get trace place ≡ Some l → slice_get lefts place ≡ Some (left_in (drop place trace) l.process)

-- there is room for each process of the trace
pub record HasRoomFor {X : Type 0} (trace : List Line) (room : Vec X) : Type 0 where
  pub empty : room.items ≡ []
  pub fits : left_in trace 1 ≤ vec_capacity room
