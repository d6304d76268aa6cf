-- What one pipe's own calls and a whole history have to do with each other.
use Rattle.std.specs.Prelude.{ℕ, ◌==◌, ◌≡◌, true, false, List, [], ◌∷◌, ◌++◌, if◌then◌else◌}
use Rattle.std.specs.List.{flat_map}
use Rattle.pass_entry.specs.declared.entry.Entry.{Entry}
use Rattle.pass_entry.specs.declared.entry.Act.{Act}
use Rattle.pass_entry.specs.declared.entry.Act.TheVariants as act
use Rattle.pass_entry.specs.declared.entry.Reply.{Reply}
use Rattle.pass_plain.specs.Histories.{is_fault, is_own, bytes_of}
use Rattle.pass_plain.specs.Sessions.{Session}
use Rattle.pass_plain.specs.Legal.{IsLegal}
use Rattle.pass_plain.specs.Pipes.{new_pipe, pipe_act, pipe_after}

-- a pipe begins as a new one
abbrev pub BeginLaw : Type 0
BeginLaw = (pipe : ℕ) → pipe_after [] pipe ≡ new_pipe

-- an entry on the pipe that is no fault makes of it what its act does
abbrev pub StepLaw : Type 0
StepLaw = (history : List Entry) (e : Entry) → is_fault e.reply ≡ false
    → pipe_after (history ++ e ∷ []) e.what ≡ pipe_act (pipe_after history e.what) e.act

-- a fault leaves the pipe
abbrev pub FaultLaw : Type 0
FaultLaw = (history : List Entry) (e : Entry) (pipe : ℕ) → is_fault e.reply ≡ true
    → pipe_after (history ++ e ∷ []) pipe ≡ pipe_after history pipe

-- entries on other objects leave the pipe
abbrev pub OthersLaw : Type 0
OthersLaw = (history : List Entry) (e : Entry) (pipe : ℕ) → (e.what == pipe) ≡ false
    → pipe_after (history ++ e ∷ []) pipe ≡ pipe_after history pipe

-- what an act puts into a pipe
abbrev pub put_in : Act → List ℕ
put_in (act.Push out bytes) = bytes
put_in _ = []

-- what an act with this reply takes out of a pipe
abbrev pub taken_out : Act → Reply → List ℕ
taken_out (act.Take len) reply = bytes_of reply
taken_out _ reply = []

-- all that was written to a pipe, in the order of the history
abbrev pub written : ℕ → List Entry → List ℕ
written pipe history = flat_map (λ e. if is_own pipe e then put_in e.act else []) history

-- all that was read from it
abbrev pub was_read : ℕ → List Entry → List ℕ
was_read pipe history = flat_map (λ e. if is_own pipe e then taken_out e.act e.reply else []) history

-- in each legal history a pipe's bytes come out in the order in which they went in, and none is lost: those that were read,
-- and then those that are left, are those that were written
abbrev pub OrderLaw : Type 0
OrderLaw = (session : Session) (history : List Entry) (pipe : ℕ) → IsLegal session history
    → was_read pipe history ++ (pipe_after history pipe).bytes ≡ written pipe history
