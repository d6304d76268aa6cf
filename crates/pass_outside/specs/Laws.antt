-- The laws of the trait, for a disk in memory.
use Rattle.std.proofs.Common.{ℕ, ◌≤◌, refl}
use Rattle.pass_outside.specs.declared.memory.MemDisk.{MemDisk}
use Rattle.pass_outside.specs.Areas.{Image}
use Rattle.pass_outside.specs.History.{beginning}
use Rattle.pass_outside.specs.Memory.{memory_view}
use Rattle.pass_outside.specs.Images.{reads_all, counts_all, more_all}

pub sees_one : (d : MemDisk) → (memory_view d).may_leave (memory_view d).seen
sees_one d = reads_all (beginning d.first) d.changes.items refl

pub leaves_now : (d : MemDisk) (t : ℕ) (c : Image) → (memory_view d).may_leave c → (memory_view d).left_since t c
leaves_now d t c now = counts_all (beginning d.first) d.changes.items (λ t c h. h) t c now

pub leaves_more : (d : MemDisk) (t u : ℕ) (c : Image) → t ≤ u → (memory_view d).left_since u c → (memory_view d).left_since t c
leaves_more d t u c le left = more_all (beginning d.first) d.changes.items (λ t u c le h. h) t u c le left
