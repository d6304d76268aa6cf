-- What is read of a log area.
use Rattle.std.specs.Prelude.{◌≡◌, ◌<◌, ◌≤◌, ℕ, List, length, Ok, IsTrue, ◌↔◌}
use Rattle.pass_log.specs.declared.image.LogImage.{LogImage}
use Rattle.pass_log.specs.declared.fault.LogFault.{LogFault}
use Rattle.pass_log.specs.declared.fault.LogFault.TheVariants as fault
use Rattle.pass_log.specs.Frames.{longest}
use Rattle.pass_log.specs.Records.{Held, image_of, Fails}
use Rattle.pass_outside.specs.Moments.{Moment}

-- the records and the end
abbrev pub held_in : LogImage → Held
held_in image = record { list = image.list.items; end = image.end }

-- the image of these bytes
pub record IsImage (image : LogImage) (bytes : List ℕ) : Type 0 where
  pub holds : image_of bytes ≡ Ok (held_in image)
  pub short : IsTrue image.short ↔ (length bytes ≤ 1)

-- The image of what the log area reads. Of a disk that tells nothing it is that of some bytes.
abbrev pub IsRead : Moment → LogImage → Type 0
IsRead m image = (bytes : List ℕ) × (IsTrue m.tells → bytes ≡ m.seen.log) × IsImage image bytes

-- The fault of what the log area reads, unless memory ran out. Of a disk that tells nothing it is that of some bytes.
abbrev pub IsFaultRead : Moment → LogFault → Type 0
IsFaultRead m e = (bytes : List ℕ) × (IsTrue m.tells → bytes ≡ m.seen.log) × Fails e (image_of bytes)

-- The cause of a fault of reading the bytes of the log area: a device call failed, or memory was refused, or it is longer than it may
-- be. Of a disk that tells nothing some bytes are so.
abbrev pub IsUnread : Moment → LogFault → Type 0
IsUnread m fault.DiskFault = Unit {0}
IsUnread m (fault.BadFrame at) = (bytes : List ℕ) × (IsTrue m.tells → bytes ≡ m.seen.log) × (longest < length bytes) × (at ≡ longest)
IsUnread m fault.NoMemory = Unit {0}
IsUnread m (fault.BadRecord place why) = ⊥
IsUnread m (fault.Broken opened now) = ⊥
