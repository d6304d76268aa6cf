use Rattle.std.proofs.Common.{◌≡◌, [], List, Bool, true, length, sum_by, ap, ◌∙◌, sym, subst, arith}
use Rattle.std.proofs.lemmas.List.Sorted.{sum_by-IsPermutation}
use Rattle.pass_sched.specs.Heaps.{tasks_of}
use Rattle.pass_sched.specs.Passes.{IsUnderway, room_of}
use Rattle.pass_sched.proofs.Underway.{short, begins, over}
use Rattle.pass_sched.proofs.alone.pass_alone.Goals as goal
use Rattle.pass_sched.proofs.alone.pass_alone.Goals.{In-Some, After-seat_all}

room_is : (g : _) (c : In-Some g) → c.in-Some.room ≡ sum_by (room_of g.T.Task) c.args.tasks.items
room_is g c = c.in-Some.ensures ∙ ap (sum_by (room_of g.T.Task)) c.as_slice.ensures.value

total : (g : _) (c : After-seat_all g) → sum_by (room_of g.T.Task) (tasks_of c.seat_all.new.pending) ≡ c.in-Some.room
total g c = omega (arith, sum_by-IsPermutation (room_of g.T.Task) _ _ c.seat_all.ensures.tasks, c.in-Some.ensures ∙ ap (sum_by (room_of g.T.Task)) c.as_slice.ensures.value)

pub seat_all-requires-clause-room : goal.seat_all-requires-clause-room
seat_all-requires-clause-room g c = omega (arith, room_is g (goal.at.seat_all-requires-clause-room g c).In-Some, short g.T.Task c.args.tasks.items, c.args.tasks.ok.0, c.in-Ok.ensures.room)

pub play_all-requires-clause-born : goal.play_all-requires-clause-born
play_all-requires-clause-born g c = omega (arith, total g (goal.at.play_all-requires-clause-born g c).After-seat_all, c.in-Ok.ensures.room)

pub play_all-requires-clause-done : goal.play_all-requires-clause-done
play_all-requires-clause-done g c = omega (arith, total g (goal.at.play_all-requires-clause-done g c).After-seat_all, c.in-Ok.ensures.room, ap length c.in-Ok.ensures.empty.2, c.in-Ok.bench.done.ok.0)

pub play_all-requires-clause-pending : goal.play_all-requires-clause-pending
play_all-requires-clause-pending g c = omega (arith, total g (goal.at.play_all-requires-clause-pending g c).After-seat_all, c.in-Ok.ensures.room)

pub returns-clause-pass : goal.returns-clause-pass
returns-clause-pass g c _ =
    let empty = c.in-Ok.ensures.empty.2 in
    let outcome = c.new-outcome.ensures in
    let start = subst (λ (y : List _ × Bool × Bool). IsUnderway g.T.Task true c.args.tasks.items [] (tasks_of c.seat_all.new.pending) y.0 y.1 y.2)
    (λ i. (sym empty i, (sym outcome i).failed, (sym outcome i).moved)) (begins g.T.Task true c.args.tasks.items (tasks_of c.seat_all.new.pending) c.seat_all.ensures.tasks) in
    let all = c.play_all.ensures c.args.tasks.items [] start in
    let ends = over g.T.Task true c.args.tasks.items all.0 _ _ _ _ _ all.1 c.answer.ensures.same c.answer.ensures.end in
    (all.0, ends.0, ends.1)
