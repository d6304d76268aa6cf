use Rattle.std.proofs.Common.{◌≡◌, ◌≤◌, ℕ, List, length, take}
use Rattle.std.specs.Prelude.{filter_map, vec_capacity}
use Rattle.std.specs.Ordering.{nat_cmp}
use Rattle.std.specs.Cmp.Lexicographic.{slice_cmp}
use Rattle.std.specs.FinMap.{find}
use Rattle.pass_plain.specs.Registries.{named_file}
use Rattle.pass_registry.specs.Places.{IsAscending}
use Rattle.pass_registry.proofs.names.Names.of_files.Given as goal

abbrev pub invariant-loop-file : goal.invariant-loop-file
invariant-loop-file l = record {
  ascending : IsAscending l.entries.items;
  same : (q : List ℕ) → find (slice_cmp nat_cmp) q l.entries.items ≡ find (slice_cmp nat_cmp) q (filter_map named_file (take l.file-index l.files));
  short : length l.entries.items ≤ l.file-index;
  room : length l.files ≤ vec_capacity l.entries;
}
