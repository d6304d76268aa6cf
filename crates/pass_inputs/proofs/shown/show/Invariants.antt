use Rattle.std.proofs.Common.{◌≡◌, ◌-◌, length}
use Rattle.pass_leaf.specs.Places.{places_of}
use Rattle.pass_inputs.specs.Plans.{IsShown, IsUpTo}
use Rattle.pass_inputs.proofs.shown.show.Given as goal

abbrev pub invariant-walk : goal.invariant-walk
invariant-walk l = record {
  own : l.shown.file ≡ l.fn.file;
  up_to : IsUpTo (places_of l.leaves l.fn.file) l.shown.count l.place;
  shows : IsShown l.leaves l.shown;
  room : length l.shown.room.items ≡ length l.fn.shown.room.items;
}

abbrev pub decreases-walk : goal.decreases-walk
decreases-walk l = length (places_of l.leaves l.fn.file) - l.shown.count
