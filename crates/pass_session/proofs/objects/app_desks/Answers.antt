use Rattle.std.proofs.Common.{◌∙◌, ap, length, arith}
use Rattle.std.specs.Prelude.{option_to_list}
use Rattle.std.specs.Vec.Iter.{into_iter_items}
use Rattle.pass_book.specs.Openings.{known_desk}
use Rattle.pass_book.specs.Tokens.{DeskState}
use Rattle.pass_entry.specs.declared.objects.Node.{Node}
use Rattle.pass_session.specs.Layouts.{app_view}
use Rattle.pass_session.proofs.Laying.{app_with, at_place, next_desk, view_step, views_end}
use Rattle.pass_session.proofs.Sought.{app_version, app_opened}
use Rattle.pass_session.proofs.objects.app_desks.Goals as goal

pub new-requires-clause-version : goal.new-requires-clause-version
new-requires-clause-version g c =
    app_version g.J.Whose.book.session c.requires.sound c.loop-app.app-index c.app-item.result
    (at_place c.args.apps.now g.J.Whose.book.session.start.apps.items c.loop-app.app-index c.app-item.result c.loop-app-test.true c.app-item.is c.requires.apps)

pub new-requires-clause-marked : goal.new-requires-clause-marked
new-requires-clause-marked g c =
    app_opened g.J.Whose.book.session c.requires.sound c.loop-app.app-index c.app-item.result
    (at_place c.args.apps.now g.J.Whose.book.session.start.apps.items c.loop-app.app-index c.app-item.result c.loop-app-test.true c.app-item.is c.requires.apps)

pub loop-app-preserved : goal.loop-app-preserved
loop-app-preserved g c =
    let one = ap (λ o. length (option_to_list o)) c.in-Some.is in
    let went = c.next.ensures.len in
    let left = c.loop-app.invariant.left in
    record {
      made = view_step app_view c.args.apps.now c.loop-app.app-index c.app-item.result c.loop-app.made.items c.push.new.self.items c.new.result c.loop-app-test.true c.app-item.is c.loop-app.invariant.made c.in_ok-push.ensures.items
          (c.new.ensures ∙ ap (λ (d : DeskState). app_with c.app-item.result.pnode d.syncs)
          (next_desk (λ (n : Node). known_desk g.J.Whose.book n.pnode) c.args.apps.now c.loop-app.app-index c.app-item.result (into_iter_items c.loop-app.desks) (into_iter_items c.next.new.self) c.next.result c.in-Some.desk
          c.loop-app-test.true c.app-item.is c.loop-app.invariant.desks c.next.ensures.items c.in-Some.is).0);
      desks = (next_desk (λ (n : Node). known_desk g.J.Whose.book n.pnode) c.args.apps.now c.loop-app.app-index c.app-item.result (into_iter_items c.loop-app.desks) (into_iter_items c.next.new.self) c.next.result c.in-Some.desk
          c.loop-app-test.true c.app-item.is c.loop-app.invariant.desks c.next.ensures.items c.in-Some.is).1;
      left = omega (arith, one, went, left);
    }

pub returns : goal.returns
returns g c =
    let past = c.loop-app-test.false in
    views_end app_view c.args.apps.now c.loop-app.app-index c.loop-app.made.items (omega (arith, past)) c.loop-app.invariant.made
