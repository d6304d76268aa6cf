-- How the run of a trace ends. This project's own rule.
use Rattle.std.specs.Prelude.{ℕ, ◌≡◌, ◌<◌, true, false, List, length}
use Rattle.pass_entry.specs.declared.entry.Entry.{Entry}
use Rattle.pass_plain.specs.Sessions.{Session}
use Rattle.pass_plain.specs.Traces.{Line}
use Rattle.pass_plain.specs.Runs.{IsOfTrace, CanMove, is_open}

-- no process of the trace is open
abbrev pub NoneOpen : Session → List Line → List Entry → Type 0
NoneOpen session trace history = (process : ℕ) → IsOfTrace trace process → is_open session trace history process ≡ false

-- no process can move
abbrev pub NoneCanMove : Session → List Line → List Entry → Type 0
NoneCanMove session trace history = (process : ℕ) → CanMove session trace history process → ⊥

-- the session has begun, some process of the trace is open, and none can move
pub record IsStuck (session : Session) (trace : List Line) (history : List Entry) : Type 0 where
  pub begun : 0 < length history
  pub process : ℕ
  pub of_trace : IsOfTrace trace process
  pub waits : is_open session trace history process ≡ true
  pub still : NoneCanMove session trace history
