-- What the answers of all commands share. This project's own rule.
use Rattle.std.specs.Prelude.{ℕ, ◌≡◌, ◌≢◌, ◌⊎◌, ◌<◌, Bool, true, false, List, if◌then◌else◌}
use Rattle.pass_outside.specs.Moments.{Moment, IsAtEnd}
use Rattle.pass_status.specs.declared.status.Status.{Status}
use Rattle.pass_status.specs.declared.status.Status.TheVariants as status
use Rattle.pass_status.specs.Statuses.{status_text}

-- no device call failed
abbrev pub IsNoDiskFault : Status → Type 0
IsNoDiskFault judged = (opened now : ℕ) → judged ≢ status.DiskFault opened now

-- a device call failed: these are the counts of faults before and after, and the count rose, or a count stands at its end
pub record HasFailed (old new : Moment) (opened now : ℕ) : Type 0 where
  pub before : opened ≡ old.faults
  pub after : now ≡ new.faults
  pub risen : (opened < now) ⊎ IsAtEnd new

-- the trace was run, so that there is a report
abbrev pub is_reported : Status → Bool
is_reported status.Done = true
is_reported status.Stuck = true
is_reported _ = false

-- what is written for a status, given the report
abbrev pub text_with : Status → List ℕ → List ℕ
text_with judged report = if is_reported judged then report else status_text judged

-- what a call saw of its sink: whether it tells what it took, and the bytes that it had taken before and after
pub record SinkSeen : Type 0 where
  pub tells : Bool
  pub before : List ℕ
  pub after : List ℕ
