-- What a list of changes makes of a disk that began with some bytes, by the crash rules.
use Rattle.std.specs.Prelude.{◌≡◌, ◌⊎◌, ℕ, ◌<◌, max, List, [], ◌∷◌, length, take}
use Rattle.pass_outside.specs.declared.disk.Area.{Area}
use Rattle.pass_outside.specs.declared.change.Change.{Change}
use Rattle.pass_outside.specs.declared.change.Change.TheVariants.{Wrote, Cut, Synced}
use Rattle.pass_outside.specs.declared.change.Event.{Event}
use Rattle.pass_outside.specs.Areas.{Image, area_of, with_area, written, Torn, CutBack, OnArea}

-- what is read, what a crash now may leave, and what one at a moment since a device call may have left
pub record Past : Type 1 where
  pub seen : Image
  pub may_leave : Image → Type 0
  pub left_since : ℕ → Image → Type 0

-- a disk that begins with these bytes, all of them synced
abbrev pub beginning : Image → Past
beginning i = record { seen = i; may_leave = λ c. c ≡ i; left_since = λ t c. c ≡ i }

-- what an area reads after a change
abbrev pub changed : Change → List ℕ → List ℕ
changed (Wrote at bytes) old = written old at bytes.items
changed (Cut len) old = take len old
changed Synced old = old

-- what a crash may leave after a change of an area
abbrev pub leaves : Past → Area → Change → Image → Type 0
leaves p area (Wrote at bytes) c = (d : Image) × p.may_leave d × OnArea area (Torn at (length bytes.items)) d c
leaves p area (Cut len) c = (d : Image) × p.may_leave d × OnArea area (CutBack len) d c
leaves p area Synced c = p.may_leave c × (area_of area c ≡ area_of area p.seen)

-- after one change more
abbrev pub next : Past → Event → Past
next p e = record {
  seen = with_area e.area (changed e.change (area_of e.area p.seen)) p.seen;
  may_leave = leaves p e.area e.change;
  left_since = λ t c. ((t < e.call) × p.left_since t c) ⊎ leaves p e.area e.change c;
}

-- after all these changes
abbrev pub after_all : Past → List Event → Past
after_all p [] = p
after_all p (e ∷ es) = after_all (next p e) es

-- the number of the last call that made a change
abbrev pub latest : List Event → ℕ
latest [] = 0
latest (e ∷ es) = max e.call (latest es)
