use Rattle.std.proofs.Common.{◌≡◌, ◌<◌, ◌+◌, ◌++◌, [], ℕ, length, map, drop}
use Rattle.std.specs.Prelude.{Some, slice_get}
use Rattle.std.specs.Vec.Iter.{into_iter_items, into_iter_len}
use Rattle.pass_book.specs.Openings.{known_desk}
use Rattle.pass_plain.specs.declared.start.StartFile.{StartFile}
use Rattle.pass_plain.specs.Outlines.{outline}
use Rattle.pass_session.specs.Layouts.{file_views}
use Rattle.pass_session.proofs.objects.file_desks.Given as goal

abbrev pub invariant-loop-file : goal.invariant-loop-file
invariant-loop-file g l = record {
  made : l.made.items ++ file_views l.file-index (drop l.file-index l.fn.start.files.items) ≡ file_views 0 l.fn.start.files.items;
  count : length l.made.items ≡ l.file-index;
  desks : into_iter_items l.desks ≡ map (λ (f : StartFile). known_desk g.J.Whose.book f.node.pnode) (drop l.file-index l.fn.start.files.items);
  left : into_iter_len l.desks + l.file-index ≡ length l.fn.start.files.items;
  same : drop l.file-index l.file-items ≡ drop l.file-index l.fn.start.files.items;
  outlines : map outline l.file-items ≡ map outline l.fn.start.files.items;
  cleared : (k : ℕ) (file : StartFile) → k < l.file-index → slice_get l.file-items k ≡ Some file → file.bytes.items ≡ [];
}
