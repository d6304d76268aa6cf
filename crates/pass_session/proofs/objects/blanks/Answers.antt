use Rattle.std.proofs.Common.{◌≡◌, ◌+◌, ◌∙◌, ap, length, arith}
use Rattle.std.specs.Prelude.{option_to_list}
use Rattle.std.specs.List.{range_with_len}
use Rattle.std.specs.Vec.Iter.{into_iter_items}
use Rattle.pass_book.specs.Openings.{new_desk}
use Rattle.pass_proc.proofs.Beginnings.{unopened}
use Rattle.pass_session.proofs.Laying.{range_desk, range_made, range_end}
use Rattle.pass_session.proofs.objects.blanks.Goals as goal

pub of-requires-clause-desk : goal.of-requires-clause-desk
of-requires-clause-desk g c =
    (range_desk c.args.first c.len-count.result c.loop-more.more c.loop-more-test.true (new_desk g.J.Whose.book) (into_iter_items c.loop-more.desks) (into_iter_items c.next.new.self) c.next.result c.in-Some.desk
    c.loop-more.invariant.desks c.next.ensures.items c.in-Some.is).0

pub of-requires-clause-new : goal.of-requires-clause-new
of-requires-clause-new g c =
    let first = c.requires.first in
    unopened g.J.Whose.book.session (c.args.first + c.loop-more.more) c.requires.sound (omega (arith, first))

pub loop-more-preserved : goal.loop-more-preserved
loop-more-preserved g c =
    let one = ap (λ o. length (option_to_list o)) c.in-Some.is in
    let went = c.next.ensures.len in
    let left = c.loop-more.invariant.left in
    record {
      made = range_made c.args.first c.len-count.result c.loop-more.more c.loop-more-test.true c.loop-more.made.items c.push.new.self.items c.of.result c.loop-more.invariant.made c.in_ok-push.ensures.items c.of.ensures;
      desks = (range_desk c.args.first c.len-count.result c.loop-more.more c.loop-more-test.true (new_desk g.J.Whose.book) (into_iter_items c.loop-more.desks) (into_iter_items c.next.new.self) c.next.result c.in-Some.desk
          c.loop-more.invariant.desks c.next.ensures.items c.in-Some.is).1;
      left = omega (arith, one, went, left);
    }

pub returns : goal.returns
returns g c =
    let past = c.loop-more-test.false in
    let count = c.len-count.ensures in
    let long = c.args.desks.ok.0 in
    range_end c.args.first c.len-count.result c.loop-more.more c.loop-more.made.items (omega (arith, past)) c.loop-more.invariant.made
    ∙ ap (λ n. range_with_len c.args.first n) (let same : c.len-count.result ≡ length c.args.desks.items = omega (arith, count, long) in same)
