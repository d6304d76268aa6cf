-- Which fault an error of the system is (this project's own rule).
use Rattle.std.specs.Prelude.{◌≡◌}
use Rattle.std.specs.IoError.{error_kind}
use Rattle.std.specs.declared.io.ErrorKind.{ErrorKind}
use Rattle.std.specs.declared.io.ErrorKind.TheVariants as kind
use Rattle.std.specs.declared.fs.TryLockError.{TryLockError}
use Rattle.std.specs.declared.fs.TryLockError.TheVariants as lock
use Rattle.pass_host.specs.declared.fault.Cause.{Cause}
use Rattle.pass_host.specs.declared.fault.Cause.TheVariants.{Missing, NotFolder, NotFile, Denied, InUse, ReadOnly, Full, Other}
use Rattle.pass_host.specs.declared.fault.Part.{Part}
use Rattle.pass_host.specs.declared.fault.Part.TheVariants.{Log}
use Rattle.pass_host.specs.declared.fault.HostFault.{HostFault}
use Rattle.pass_host.specs.declared.fault.HostFault.TheVariants.{Failed, NoMemory}

-- the cause that a kind of error is
abbrev pub cause_of : ErrorKind → Cause
cause_of kind.NotFound = Missing
cause_of kind.NotADirectory = NotFolder
cause_of kind.IsADirectory = NotFile
cause_of kind.PermissionDenied = Denied
cause_of kind.ReadOnlyFilesystem = ReadOnly
cause_of kind.StorageFull = Full
cause_of kind.QuotaExceeded = Full
cause_of kind.FileTooLarge = Full
cause_of _ = Other

-- want of memory is NoMemory, and any other error is of the part
pub record IsFaultOf (part : Part) (error : ErrorKind) (fault : HostFault) : Type 0 where
  pub memory : error ≡ kind.OutOfMemory → fault ≡ NoMemory
  pub other : (error ≡ kind.OutOfMemory → ⊥) → fault ≡ Failed part (cause_of error)

-- a lock that someone else holds is a cause of its own
abbrev pub IsLockFaultOf : TryLockError → HostFault → Type 0
IsLockFaultOf lock.WouldBlock fault = fault ≡ Failed Log InUse
IsLockFaultOf (lock.Error error) fault = IsFaultOf Log (error_kind error) fault
