use Rattle.std.proofs.Common.{◌≡◌, take}
use Rattle.std.specs.Prelude.{fold, flat_map}
use Rattle.std.specs.Ordering.{nat_cmp}
use Rattle.std.specs.BTreeSet.{insert_key}
use Rattle.pass_past.specs.Pasts.{file_number}
use Rattle.pass_past.proofs.contents.add_files.Given as goal

abbrev pub invariant-loop-object : goal.invariant-loop-object
invariant-loop-object l = l.files.keys ≡ fold (insert_key nat_cmp) l.initial.files.keys (flat_map file_number (take l.object-index l.objects))
