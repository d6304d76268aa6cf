-- What the two areas of a disk hold, what a call does to one of them, and what a crash may make of that (this project's own rule).
use Rattle.std.specs.Prelude.{◌≡◌, ℕ, ◌+◌, ◌-◌, ◌≤◌, min, max, List, ◌++◌, length, take, drop, replicate}
use Rattle.pass_outside.specs.declared.disk.Area.{Area}
use Rattle.pass_outside.specs.declared.disk.Area.TheVariants.{Log, Store}

-- the bytes of both areas at one moment
pub record Image : Type 0 where
  pub log : List ℕ
  pub store : List ℕ

-- those of one area
abbrev pub area_of : Area → Image → List ℕ
area_of Log i = i.log
area_of Store i = i.store

-- the area that a call doesn't touch
abbrev pub other : Area → Area
other Log = Store
other Store = Log

-- an image with other bytes in one area
abbrev pub with_area : Area → List ℕ → Image → Image
with_area Log bytes i = record i { log = bytes }
with_area Store bytes i = record i { store = bytes }

-- these bytes at this place; where that lies past the end, zeros stand between, as in a POSIX file
abbrev pub written : List ℕ → ℕ → List ℕ → List ℕ
written old at bytes = (take at old ++ replicate (at - length old) 0) ++ bytes ++ drop (at + length bytes) old

-- A write of n bytes that isn't synced, also one that failed: any bytes in its range and past the old end,
-- an end from the old one to that of the range, and the old bytes elsewhere.
pub record Torn (at n : ℕ) (old new : List ℕ) : Type 0 where
  pub front : take (min at (length old)) new ≡ take at old
  pub back : take (length old - (at + n)) (drop (at + n) new) ≡ drop (at + n) old
  pub no_shorter : length old ≤ length new
  pub no_longer : length new ≤ max (length old) (at + n)

-- A cut to n bytes that isn't synced, also one that failed: an end from there to the old one, and any bytes past there.
pub record CutBack (n : ℕ) (old new : List ℕ) : Type 0 where
  pub front : take (min n (length old)) new ≡ take n old
  pub no_shorter : min n (length old) ≤ length new
  pub no_longer : length new ≤ length old

-- one area goes on by a step, and the other one stays
pub record OnArea (area : Area) (step : List ℕ → List ℕ → Type 0) (old new : Image) : Type 0 where
  pub here : step (area_of area old) (area_of area new)
  pub elsewhere : area_of (other area) new ≡ area_of (other area) old
