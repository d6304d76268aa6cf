-- What the answer of a store makes of a process.
use Rattle.std.specs.Prelude.{ℕ, ◌==◌, ◌≡◌, List, Option, Some, None, Result, Ok, Err, if◌then◌else◌}
use Rattle.pass_answer.specs.declared.answer.CallEnd.{CallEnd}
use Rattle.pass_answer.specs.declared.answer.CallEnd.TheVariants as ends
use Rattle.pass_answer.specs.declared.answer.Moved.{Moved}
use Rattle.pass_proc.specs.Ends.{trail_of_proc}
use Rattle.pass_proc.specs.Procs.{ProcView}
use Rattle.pass_sched.specs.declared.task.Turn.TheVariants as turn
use Rattle.pass_walk.specs.declared.children.Children.{Children}
use Rattle.pass_walk.specs.declared.ends.Cause.{Cause}
use Rattle.pass_walk.specs.declared.ends.Cause.TheVariants as causes
use Rattle.pass_walk.specs.declared.walker.Living.{Living}
use Rattle.pass_walk.specs.declared.walker.Left.{Left as LeftProcess}
use Rattle.pass_walk.specs.declared.walker.Outcome.{Outcome}
use Rattle.pass_walk.specs.declared.walker.Outcome.TheVariants as outcomes
use Rattle.pass_walk.specs.declared.walker.Walker.TheVariants as walker
use Rattle.pass_walk.specs.declared.walker.Went.{Went}
use Rattle.pass_plain.specs.Sessions.{Session}
use Rattle.pass_plain.specs.Traces.{Line}
use Rattle.pass_walk.specs.Lefts.{left_at}
use Rattle.pass_walk.specs.Walkers.{HasWent, pnode_among}

abbrev pub unfinished_of : Cause → CallEnd → Outcome
unfinished_of after_fault ends.Again = outcomes.Waits
unfinished_of after_fault (ends.Full left need) = outcomes.Fails causes.TooFewPlaces
unfinished_of after_fault ends.NoMemory = outcomes.Fails causes.NoMemory
unfinished_of after_fault (ends.DiskFault opened now) = outcomes.Fails (causes.DiskFault opened now)
unfinished_of after_fault (ends.Fault f) = outcomes.Fails after_fault

-- a call that was made to its end goes on with the next line, whatever it answered
abbrev pub outcome_of : Result Moved CallEnd → Outcome
outcome_of (Ok m) = outcomes.Goes
outcome_of (Err (ends.Fault f)) = outcomes.Goes
outcome_of (Err end) = unfinished_of causes.NoMemory end

abbrev pub left_as : {J : Type 0} → Living J → ℕ → Cause → LeftProcess J
left_as l left cause = record { process = l.process; left = left; trail = trail_of_proc l.proc; cause = cause }

-- the process after its call: at its next line, where it was, or left
abbrev pub IsAfter : {J : Type 0} → Outcome → Option ℕ → ℕ → Living J → Went J → Type 0
IsAfter outcomes.Goes next left l w = w ≡ record { walker = walker.Living (record l { line = next }); answer = turn.Moved; kid = None }
IsAfter outcomes.Waits next left l w = w ≡ record { walker = walker.Living l; answer = turn.Waiting; kid = None }
IsAfter (outcomes.Fails cause) next left l w = w ≡ record { walker = walker.Left (left_as l left cause); answer = turn.Failed; kid = None }

-- a call that is over goes on with the next line
abbrev pub gone_on : {J : Type 0} → Outcome → Option ℕ → Living J → Living J
gone_on outcomes.Goes next l = record l { line = next }
gone_on outcomes.Waits next l = l
gone_on (outcomes.Fails cause) next l = l

-- a process has made the call of its line where it lies: it has taken its turn, but is still to be left where that failed
abbrev pub HasMade : {J : Type 0} → Session → ℕ → List Line → Living J → Outcome → Living J → Type 0
HasMade {J} session places trace before outcome l =
    (w : Went J) → IsAfter outcome l.line (left_at trace before.process before.line) l w → HasWent session places trace before w

-- the process after a fork: at its next line, with this child more
pub record HasBorne {J : Type 0} (child : ℕ) (born : ProcView) (next first : Option ℕ) (l : Living J) (w : Went J) : Type 0 where
  pub children : Children
  pub noted : (q : ℕ) → pnode_among children q ≡ (if child == q then born.who else pnode_among l.children q)
  pub none : Children
  pub is : w ≡ record {
    walker = walker.Living (record l { line = next; children = children });
    answer = turn.Moved;
    kid = Some (record { process = child; line = first; children = none; proc = born });
  }
