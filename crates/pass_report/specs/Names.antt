-- The names that files have after a history.
use Rattle.std.specs.Prelude.{ℕ, ◌≡◌, Bool, List}
use Rattle.std.specs.Ordering.{nat_cmp}
use Rattle.std.specs.Cmp.Lexicographic.{slice_cmp}
use Rattle.std.specs.BTreeSet.{contains}
use Rattle.std.specs.FinMap as finite_map
use Rattle.pass_entry.specs.declared.entry.Entry.{Entry}
use Rattle.pass_plain.specs.Sessions.{Session}
use Rattle.pass_plain.specs.Registries.{registry_after}
use Rattle.pass_report.specs.declared.names.Names.{Names}

abbrev pub holds : Names → List ℕ → Bool
holds n name = contains (slice_cmp nat_cmp) n.set name

-- they are those that the registry has
abbrev pub AreNames : Session → List Entry → Names → Type 0
AreNames session history n = (name : List ℕ) → holds n name ≡ finite_map.contains_key (registry_after session history).names name
