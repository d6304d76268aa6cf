use Rattle.std.proofs.Common.{◌≡◌, ℕ, [], map, take}
use Rattle.std.specs.Prelude.{Some, slice_get}
use Rattle.pass_plain.specs.declared.start.StartFile.{StartFile}
use Rattle.pass_range.specs.Rows.{files_of}
use Rattle.pass_recover.specs.Fills.{IsFilled}
use Rattle.pass_recover.proofs.blank.blank_files.Given as goal

abbrev pub invariant-loop-one : goal.invariant-loop-one
invariant-loop-one l = record {
  order : map (λ (file : StartFile). file.node.pnode) l.files.items ≡ files_of (take l.one-index l.list);
  each : (i : ℕ) (file : StartFile) → slice_get l.files.items i ≡ Some file → IsFilled l.list [] file;
}
