-- The ranks of calls, by which the order of a trace's text is that of numbers. This project's own rule.
use Rattle.std.specs.Prelude.{ℕ, ◌+◌, ◌*◌, ◌≡◌, ◌⊎◌, List, Option, Some, None, length, slice_get, take}
use Rattle.pass_plain.specs.Traces.{Line, fork_as, lines_of}
use Rattle.pass_replay.specs.Orders.{Place}

-- that of the line at a place, or of the exit where there is no line
abbrev pub rank_of : Option ℕ → ℕ → ℕ
rank_of (Some place) exit = 3 * place + 1
rank_of None exit = exit

-- the call is that of the line at this place
pub record IsLineRank (trace : List Line) (c : Place) (rank : ℕ) : Type 0 where
  pub place : ℕ
  pub its : Line
  pub stands : slice_get trace place ≡ Some its
  pub own : its.process ≡ c.0
  pub count : length (lines_of (take place trace) c.0) + 1 ≡ c.1
  pub is : rank ≡ 3 * place + 1

-- it is the exit behind the line at this place, the last one of its process
pub record IsExitRank (trace : List Line) (c : Place) (rank : ℕ) : Type 0 where
  pub place : ℕ
  pub its : Line
  pub stands : slice_get trace place ≡ Some its
  pub own : its.process ≡ c.0
  pub last : length (lines_of (take place trace) c.0) + 1 ≡ length (lines_of trace c.0)
  pub behind : c.1 ≡ length (lines_of trace c.0) + 1
  pub is : rank ≡ 3 * place + 2

-- it is the exit of the first process, which has no lines
pub record IsFirstRank (trace : List Line) (c : Place) (rank : ℕ) : Type 0 where
  pub first : c.0 ≡ 1
  pub none : length (lines_of trace c.0) ≡ 0
  pub only : c.1 ≡ 1
  pub is : rank ≡ 0

-- it is the exit of a process without lines, behind the line at this place, which forks it
pub record IsChildRank (trace : List Line) (c : Place) (rank : ℕ) : Type 0 where
  pub place : ℕ
  pub its : Line
  pub stands : slice_get trace place ≡ Some its
  pub forks : its.call ≡ fork_as c.0
  pub none : length (lines_of trace c.0) ≡ 0
  pub only : c.1 ≡ 1
  pub is : rank ≡ 3 * place + 3

abbrev pub IsRank : List Line → Place → ℕ → Type 0
IsRank trace c rank = IsLineRank trace c rank ⊎ (IsExitRank trace c rank ⊎ (IsFirstRank trace c rank ⊎ IsChildRank trace c rank))
