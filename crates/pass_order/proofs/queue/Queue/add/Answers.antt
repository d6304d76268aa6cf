use Rattle.std.proofs.Common.{◌≡◌, ◌∷◌, ℕ, IsPermutation, arith, refl, subst, length}
use Rattle.std.specs.BinaryHeap.{heap_items}
use Rattle.pass_order.specs.declared.standing.Standing.{Standing}
use Rattle.pass_order.proofs.queue.Queue.add.Goals as goal

pub returns : goal.returns
returns g c =
    let at : c.len-place.result ≡ length c.args.self.now.walkers.items = omega (arith, c.len-place.ensures, c.args.self.now.walkers.ok.0) in
    let stands : ℕ → Standing = λ n. record { rank = c.args.rank; place = n; seen = 0 } in
    record {
      walkers = c.push_reserved.ensures.items;
      due = subst (λ n. IsPermutation (stands n ∷ heap_items c.args.self.now.due) (heap_items c.stand.new.due)) at c.stand.ensures.items;
      heap = c.stand.ensures.heap;
      count = c.stand.ensures.count;
      late = (refl, refl);
      last = refl;
      room = (omega (arith, c.push_reserved.ensures.capacity), c.stand.ensures.room, omega arith);
    }
