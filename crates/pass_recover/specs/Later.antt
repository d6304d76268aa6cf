-- A later moment of a disk, and one at which nothing was written to it (this project's own rule).
use Rattle.std.specs.Prelude.{◌≡◌, ◌≤◌}
use Rattle.pass_outside.specs.Areas.{Image}
use Rattle.pass_outside.specs.Moments.{Moment, Adds}

-- a later moment of a disk: what it tells stays, and its counts never fall
pub record IsLater (old new : Moment) : Type 0 where
  pub tells : new.tells ≡ old.tells
  pub faults : old.faults ≤ new.faults
  pub calls : old.calls ≤ new.calls

-- nothing was written to a disk: a crash leaves what it might have left before
pub record IsLeftAlone (old new : Moment) : Type 0 where
  pub crash : (c : Image) → new.may_leave c → old.may_leave c
  pub adds : Adds old new old.may_leave
