-- The places of the book that a process at work holds.
use Rattle.std.specs.Prelude.{◌≡◌, ℕ, ◌+◌, ◌<◌, ◌≤◌, true, false, length}
use Rattle.pass_plain.specs.Processes.{has_begun, has_ended}
use Rattle.pass_plain.specs.Legal.{IsLegal}
use Rattle.pass_plain.specs.Places.{exit_places, call_places}
use Rattle.pass_book.specs.Tokens.{BookId, BookState, LineState}

-- so many places are free for a caller, with those that it holds for its call
abbrev pub HasRoom : BookState → ℕ → ℕ → Type 0
HasRoom book held need = held < need → length book.history + book.claimed + need ≤ book.places + held

-- the line of a living process, with so many places in all: `own` for its exit and `held` for its last call, as the definitions say of what it has seen
pub record IsKept (book : BookId) (total own held : ℕ) (l : LineState) : Type 0 where
  pub of_book : l.book ≡ book
  pub legal : IsLegal book.session l.seen
  pub begun : has_begun l.seen l.who ≡ true
  pub lives : has_ended l.seen l.who ≡ false
  pub all : total ≡ own + held
  pub exit : own ≡ exit_places l.seen l.who
  pub call : held ≡ call_places l.seen l.who
