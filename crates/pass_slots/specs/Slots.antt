-- What lies in the lock of an object.
use Rattle.std.specs.Prelude.{◌≡◌, ℕ, true}
use Rattle.pass_entry.specs.declared.objects.Descriptor.{Descriptor}
use Rattle.pass_plain.specs.Processes.{is_app, is_file, is_pipe}
use Rattle.pass_slots.specs.declared.slot.Slot.{Slot}
use Rattle.pass_slots.specs.declared.slot.Slot.TheVariants as slots
use Rattle.pass_slots.specs.declared.slot.Sought.{Sought}
use Rattle.pass_slots.specs.declared.slot.Sought.TheVariants as sought

-- what is looked for lies here, of this number
abbrev pub Has : {J : Type 0} → Slot J → Sought → ℕ → Type 0
Has (slots.Blank b) sought.Blank what = b ≡ what
Has (slots.File f) sought.File what = f.what ≡ what
Has (slots.Pipe p) sought.Pipe what = p.what ≡ what
Has (slots.Living p) sought.Living what = p.who ≡ what
Has (slots.Living p) sought.Process what = p.who ≡ what
Has (slots.Ended p) sought.Process what = p.who ≡ what
Has _ _ what = ⊥

-- a process that has ended lies here, of this number
abbrev pub KeepsEnded : {J : Type 0} → Slot J → ℕ → Type 0
KeepsEnded (slots.Ended p) who = p.who ≡ who
KeepsEnded _ who = ⊥

-- the object of a descriptor lies here: a file, a pipe or an app object, as the descriptor says
abbrev pub HasObject : {J : Type 0} → Slot J → Descriptor → Type 0
HasObject (slots.File f) d = (is_file d ≡ true) × (f.what ≡ d.pnode)
HasObject (slots.Pipe p) d = (is_pipe d ≡ true) × (p.what ≡ d.pnode)
HasObject (slots.App a) d = (is_app d ≡ true) × (a.what ≡ d.pnode)
HasObject _ d = ⊥
