use Rattle.std.proofs.Common.{ap, subst, ◌<◌, ◌≤◌, ◌≡◌, ◌∷◌, false, true, not, nat_lt, IsPermutation, arith, sym}
use Rattle.std.proofs.lemmas.List.Sorted.{IsPermutation-to_front, IsPermutation-sym}
use Rattle.std.proofs.lemmas.Bool.{lt-ltb, le-ltb}
use Rattle.pass_sched.proofs.Perms.{joins, passes_by}
use Rattle.pass_sched.proofs.alone.sort_out.Goals as goal

pub loop-task-preserved-then-order-above : goal.loop-task-preserved-then-order-above
loop-task-preserved-then-order-above g c =
    let old = c.loop-task.invariant in
    let items = c.in-Some.ensures.items in
    let lt : c.args.above < g.T.Task.order c.in-Some.task = omega (arith, c.order.ensures) in
    let yes : nat_lt c.args.above (g.T.Task.order c.in-Some.task) ≡ true = lt-ltb _ _ lt in
    record {
      pending = omega (arith, c.in-Some.ensures.cases);
      done = omega (arith, c.in-Some.ensures.cases);
      heap_grows = omega arith;
      done_same = omega arith;
      born_same = omega arith;
      joining = joins _ _ _ _ _ _ c.in-Some.task items yes old.joining c.seat.ensures.tasks;
      staying = passes_by _ _ _ _ _ c.in-Some.task items (ap not yes) old.staying;
    }

pub loop-task-preserved : goal.loop-task-preserved
loop-task-preserved g c =
    let old = c.loop-task.invariant in
    let items = c.in-Some.ensures.items in
    let le : g.T.Task.order c.in-Some.task ≤ c.args.above = omega (arith, c.order.ensures) in
    let no' : nat_lt c.args.above (g.T.Task.order c.in-Some.task) ≡ false = le-ltb _ _ le in
    record {
      pending = omega (arith, c.in-Some.ensures.cases);
      done = omega (arith, c.in-Some.ensures.cases);
      heap_grows = omega arith;
      done_same = omega arith;
      born_same = omega arith;
      joining = passes_by _ _ _ _ _ c.in-Some.task items no' old.joining;
      staying = joins _ _ _ _ _ _ c.in-Some.task items (ap not no') old.staying (subst (IsPermutation (c.in-Some.task ∷ c.loop-task.done.items)) (sym c.push_reserved.ensures.items) (IsPermutation-sym _ _ (IsPermutation-to_front c.loop-task.done.items c.in-Some.task)));
    }
