use Rattle.std.proofs.Common.{◌≡◌, ◌∙◌, ◌+◌, ◌++◌, ℕ, List, IsPermutation, ap, arith, length, subst}
use Rattle.std.specs.BinaryHeap.{heap_items}
use Rattle.std.specs.Prelude.{slice_set}
use Rattle.pass_walk.specs.declared.walker.Walker.{Walker}
use Rattle.pass_order.specs.declared.standing.Standing.{Standing}
use Rattle.pass_order.specs.Queues.{kid_standings, kid_walkers, list_of, next_standings, place_of}
use Rattle.pass_order.proofs.Meeting.{length_set}
use Rattle.pass_order.proofs.queue.Queue.settle.Goals as goal

pub put_late-requires : goal.put_late-requires
put_late-requires g c =
    let same : list_of c.next_standing-next.result ≡ next_standings c.args.went.walker c.args.went.answer c.args.standing (place_of c.args.line) =
    c.next_standing-next.ensures ∙ ap (λ n. next_standings c.args.went.walker c.args.went.answer c.args.standing n) c.place_in-place.ensures in
    let size = ap (λ (ss : List Standing). length ss) same in
    omega (arith, size, c.requires.late)

pub index_mut-requires : goal.index_mut-requires
index_mut-requires g c = omega (arith, c.requires.place, c.args.self.now.walkers.ok.0)

pub add_kid-requires-clause-walkers : goal.add_kid-requires-clause-walkers
add_kid-requires-clause-walkers g c = c.requires.walkers

pub add_kid-requires-clause-due : goal.add_kid-requires-clause-due
add_kid-requires-clause-due g c = c.requires.due

pub returns-clause-settled : goal.returns-clause-settled
returns-clause-settled g c =
    let old = c.args.self.now in
    let went = c.args.went in
    let place : c.place_in-place.result ≡ place_of c.args.line = c.place_in-place.ensures in
    let same : list_of c.next_standing-next.result ≡ next_standings went.walker went.answer c.args.standing (place_of c.args.line) =
    c.next_standing-next.ensures ∙ ap (λ n. next_standings went.walker went.answer c.args.standing n) place in
    let added = c.add_kid.ensures in
    let size = ap (λ (ss : List Standing). length ss) same in
    let sized : length (slice_set old.walkers.items c.args.standing.place c.replace.new.dest) ≡ length old.walkers.items = length_set old.walkers.items c.args.standing.place c.replace.new.dest in
    record {
      walkers = added.walkers ∙ ap (λ (w : Walker _). slice_set old.walkers.items c.args.standing.place w ++ kid_walkers went.kid) c.replace.ensures.after;
      due = subst (λ (x : ℕ × ℕ). IsPermutation (kid_standings went.kid x.0 x.1 ++ heap_items old.due) (heap_items c.add_kid.new.self.due)) (λ i. (sized i, place i)) added.due;
      heap = added.heap;
      late = added.late.0 ∙ c.put_late.ensures.items ∙ ap (λ ss. old.late.items ++ ss) same;
      last = added.last;
      count = omega (arith, added.count, added.late.1, c.put_late.ensures.count, size);
      room = (omega (arith, added.room.0), omega (arith, added.room.1), omega (arith, added.room.2, c.put_late.ensures.room));
    }
