use Rattle.std.proofs.Common.{◌≡◌, ◌+◌, ◌*◌, ◌∷◌, ◌∙◌, ℕ, IsPermutation, ap, append-nil, arith, length, refl, subst, sym}
use Rattle.std.specs.BinaryHeap.{heap_items}
use Rattle.std.proofs.lemmas.List.Sorted.{IsPermutation-refl}
use Rattle.pass_order.specs.declared.standing.Standing.{Standing}
use Rattle.std.specs.Prelude.{Option}
use Rattle.pass_walk.specs.declared.walker.Living.{Living}
use Rattle.pass_order.specs.Queues.{IsKidAdded, kid_walkers}
use Rattle.pass_order.specs.Ranks.{rank_of}
use Rattle.pass_order.proofs.queue.Queue.add_kid.Goals as goal

pub add-requires : goal.add-requires
add-requires g c = record {
  room = (
    (let a = ap (λ (k : Option (Living _)). length (kid_walkers k)) c.in-Some.is in omega (arith, a, c.requires.walkers)),
    (let a = ap (λ (k : Option (Living _)). length (kid_walkers k)) c.in-Some.is in omega (arith, a, c.requires.due)),
  );
}

pub returns-in-Some : goal.returns-in-Some
returns-in-Some g c =
    let added = c.add.ensures in
    let old = c.args.self.now in
    let stands : ℕ → Standing = λ rank. record { rank = rank; place = length old.walkers.items; seen = 0 } in
    let rank : c.rank_at-rank.result ≡ rank_of c.in-Some.kid.line (3 * c.args.place + 3) = c.rank_at-rank.ensures ∙ ap (λ n. rank_of c.in-Some.kid.line n) c.child_exit_behind.ensures in
    subst (λ k. IsKidAdded k c.args.place old c.add.new.self) (sym c.in-Some.is) (record {
      walkers = added.walkers;
      due = subst (λ n. IsPermutation (stands n ∷ heap_items old.due) (heap_items c.add.new.self.due)) rank added.due;
      heap = added.heap;
      count = added.count;
      late = added.late;
      last = added.last;
      room = added.room;
    })

pub returns-in_default : goal.returns-in_default
returns-in_default g c =
    let old = c.args.self.now in
    subst (λ k. IsKidAdded k c.args.place old old) (sym c.in_default.is) (record {
      walkers = sym (append-nil old.walkers.items);
      due = IsPermutation-refl (heap_items old.due);
      heap = λ is. is;
      count = omega arith;
      late = (refl, refl);
      last = refl;
      room = (omega arith, omega arith, omega arith);
    })
