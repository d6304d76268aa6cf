use Rattle.std.proofs.Common.{◌≡◌, ◌++◌, ◌∙◌, List, [], IsPermutation, ap, append-nil, arith, refl, subst}
use Rattle.std.specs.BinaryHeap.{heap_items}
use Rattle.std.proofs.lemmas.List.{nil_from_length}
use Rattle.std.proofs.lemmas.List.Sorted.{IsPermutation-refl}
use Rattle.pass_order.specs.declared.standing.Standing.{Standing}
use Rattle.pass_order.proofs.Placing.{moves_due}
use Rattle.pass_order.proofs.queue.Queue.begin_again.Goals as goal

pub loop-standing-preserved : goal.loop-standing-preserved
loop-standing-preserved g c =
    let old = c.loop-standing.invariant in
    record {
      walkers = old.walkers;
      due = moves_due (heap_items c.args.self.now.due ++ c.args.self.now.late.items) (heap_items c.loop-standing.self.due) c.loop-standing.self.late.items c.pop.new.self.items (heap_items c.stand.new.due) c.in-Some.standing old.due
          c.in-Some.ensures.items c.stand.ensures.items;
      heap = λ is. c.stand.ensures.heap (old.heap is);
      last = old.last;
      count = omega (arith, c.in-Some.ensures.cases, c.stand.ensures.count, old.count);
      room = (omega (arith, c.stand.ensures.room, old.room.0), omega (arith, old.room.1, c.in-Some.ensures.capacity));
    }

pub loop-standing-init : goal.loop-standing-init
loop-standing-init g c = record {
  walkers = (refl, omega arith);
  due = IsPermutation-refl (heap_items c.args.self.now.due ++ c.args.self.now.late.items);
  heap = λ is. is;
  last = refl;
  count = refl;
  room = (omega arith, omega arith);
}

pub stand-requires : goal.stand-requires
stand-requires g c = let inv = c.loop-standing.invariant in omega (arith, inv.count, inv.room.0, c.in-Some.ensures.cases, c.requires)

pub returns : goal.returns
returns g c =
    let inv = c.loop-standing.invariant in
    let cases = c.in_default.ensures.cases in
    let due = heap_items c.loop-standing.self.due in
    let before : c.loop-standing.self.late.items ≡ [] = nil_from_length _ (omega (arith, cases.0, c.loop-standing.self.late.ok.0)) in
    let after : c.pop.new.self.items ≡ [] = nil_from_length _ (omega (arith, cases.1, c.pop.new.self.ok.0)) in
    record {
      walkers = inv.walkers;
      due = subst (λ (xs : List Standing). IsPermutation (heap_items c.args.self.now.due ++ c.args.self.now.late.items) xs) (ap (λ (ys : List Standing). due ++ ys) before ∙ append-nil due) inv.due;
      heap = inv.heap;
      late = (after, cases.1);
      last = inv.last;
      count = omega (arith, inv.count, cases.0);
      room = (inv.room.0, omega (arith, inv.room.1, c.in_default.ensures.capacity));
    }
