-- The one crash image that a form in memory is asked for (this project's own rule).
use Rattle.std.specs.Prelude.{ℕ, ◌+◌, ◌-◌, Bool, true, false, if◌then◌else◌, List, [], ◌∷◌, ◌++◌, length, take, replicate, nat_lt}
use Rattle.pass_outside.specs.declared.disk.Area.{Area}
use Rattle.pass_outside.specs.declared.disk.Area.TheVariants.{Log, Store}
use Rattle.pass_outside.specs.declared.change.Change.{Change}
use Rattle.pass_outside.specs.declared.change.Change.TheVariants.{Wrote, Cut, Synced}
use Rattle.pass_outside.specs.declared.change.Event.{Event}
use Rattle.pass_outside.specs.declared.keep.Keep.{Keep}
use Rattle.pass_outside.specs.declared.keep.Keep.TheVariants.{Old, New, Fill}
use Rattle.pass_outside.specs.Areas.{Image, area_of, with_area, written}
use Rattle.pass_outside.specs.History.{changed}

-- what is kept of a change: nothing, all of it, or one byte wherever the change leaves any bytes
abbrev pub kept_change : Keep → Change → List ℕ → List ℕ
kept_change Old change old = old
kept_change New change old = changed change old
kept_change (Fill byte) (Wrote at bytes) old = written old at (replicate (length bytes.items) byte)
kept_change (Fill byte) (Cut len) old = take len old ++ replicate (length old - len) byte
kept_change (Fill byte) Synced old = old

-- the same of a write
abbrev pub kept_write : Keep → List ℕ → ℕ → List ℕ → List ℕ
kept_write Old old at bytes = old
kept_write New old at bytes = written old at bytes
kept_write (Fill byte) old at bytes = written old at (replicate (length bytes) byte)

-- the same of a cut
abbrev pub kept_cut : Keep → List ℕ → ℕ → List ℕ
kept_cut Old old len = old
kept_cut New old len = take len old
kept_cut (Fill byte) old len = take len old ++ replicate (length old - len) byte

-- a change of the second area is a sync of the first
abbrev pub syncs : Area → Area → Change → Bool
syncs Log Log Synced = true
syncs Store Store Synced = true
syncs area changed_area change = false

-- a sync of that area
abbrev pub is_sync : Area → Event → Bool
is_sync area e = syncs area e.area e.change

-- how many syncs of that area there are
abbrev pub syncs_of : Area → List Event → ℕ
syncs_of area [] = 0
syncs_of area (e ∷ es) = if is_sync area e then 1 + syncs_of area es else syncs_of area es

-- the number that belongs to an area
abbrev pub pick : Area → ℕ → ℕ → ℕ
pick Log log store = log
pick Store log store = store

-- a change whose area is synced later is kept as it was, and any other one as it is asked
abbrev pub kept_all : Keep → Image → List Event → Image
kept_all keep i [] = i
kept_all keep i (e ∷ es) =
    let how = if nat_lt 0 (syncs_of e.area es) then New else keep in
    kept_all keep (with_area e.area (kept_change how e.change (area_of e.area i)) i) es
