-- How an archive is opened and handed out. This project's own rule.
use Rattle.std.specs.Prelude.{◌≡◌, ◌⊎◌, IsTrue, []}
use Rattle.pass_log.specs.Frames.{frames_of}
use Rattle.pass_log.specs.Log.{LeavesStore}
use Rattle.pass_outside.specs.Areas.{Image}
use Rattle.pass_outside.specs.Moments.{Moment, Adds, IsDeviceWork}
use Rattle.pass_leaf.specs.declared.fault.OldFault.{OldFault}
use Rattle.pass_leaf.specs.declared.fault.OldFault.TheVariants as faults
use Rattle.pass_leaf.specs.Archives.{Archive, IsArchiveOn, IsUnopened, LeavesThem}

-- The archive was opened, and has these leaves. A crash since then leaves what it might have left before, or the frames as they were.
pub record IsOpened {A : Type 0} (view : A → Moment) (before : A) (first : Archive A) : Type 0 where
  pub leaves : IsArchiveOn (view before) first.leaves first.end
  pub none_gathered : first.gathered ≡ []
  pub counted : first.opened ≡ (view first.disk).faults
  pub work : IsDeviceWork (view before) (view first.disk) ⊥
  pub moments : IsTrue (view before).tells → Adds (view before) (view first.disk) (λ c. (view before).may_leave c ⊎ (frames_of c.log ≡ frames_of (view before).seen.log))
  pub store : LeavesStore (view before) (view first.disk)

-- It didn't open, and no leaf was written; nothing at all, unless a device call failed.
pub record IsUnopenedArchive (before after : Moment) (fault : OldFault) : Type 0 where
  pub cause : IsUnopened before fault
  pub reads : (fault ≡ faults.DiskFault) ⊎ (after.seen ≡ before.seen)
  pub crash : (fault ≡ faults.DiskFault) ⊎ ((c : Image) → after.may_leave c → before.may_leave c)
  pub alone : (fault ≡ faults.DiskFault) ⊎ Adds before after before.may_leave
  pub work : IsDeviceWork before after (fault ≡ faults.DiskFault)
  pub moments : IsTrue before.tells → Adds before after (λ c. before.may_leave c ⊎ (frames_of c.log ≡ frames_of before.seen.log))
  pub store : LeavesStore before after

-- The archive has been opened, and is handed out with these leaves, of which each crash leaves all.
pub record IsHandedOut {A : Type 0} (view : A → Moment) (last : Archive A) (archived : A) : Type 0 where
  pub disk : archived ≡ last.disk
  pub leaves : LeavesThem (view archived) last.opened last.leaves last.end
