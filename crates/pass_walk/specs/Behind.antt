-- How many turns are left to the processes behind a line, as a table keeps them.
use Rattle.std.specs.Prelude.{ℕ}
use Rattle.std.specs.BTreeMap.{BTreeMap, get}
use Rattle.std.specs.Option.{option_map_or}
use Rattle.std.specs.Ordering.{nat_cmp}

-- its exit alone, where it has no line
abbrev pub left_behind : BTreeMap ℕ ℕ → ℕ → ℕ
left_behind behind process = option_map_or (λ left. left) (get nat_cmp behind process) 1
