use Rattle.std.proofs.Common.{◌≡◌, ◌+◌, ◌++◌, length, map, drop}
use Rattle.std.specs.Vec.Iter.{into_iter_items, into_iter_len}
use Rattle.pass_book.specs.Openings.{known_desk}
use Rattle.pass_entry.specs.declared.objects.Node.{Node}
use Rattle.pass_session.specs.Layouts.{app_view}
use Rattle.pass_session.proofs.objects.app_desks.Given as goal

abbrev pub invariant-loop-app : goal.invariant-loop-app
invariant-loop-app g l = record {
  made : l.made.items ++ map app_view (drop l.app-index l.apps) ≡ map app_view l.apps;
  desks : into_iter_items l.desks ≡ map (λ (n : Node). known_desk g.J.Whose.book n.pnode) (drop l.app-index l.apps);
  left : into_iter_len l.desks + l.app-index ≡ length l.apps;
}
