use Rattle.std.proofs.Common.{◌≡◌, ℕ, ◌+◌, ◌≤◌, ◌<◌, ◌++◌, ◌&&◌, ◌||◌, List, Bool, true, not, nat_lt, filter, sum_by, IsPermutation, length, length-append, ap, ◌∙◌, sym, subst, arith, vec_len}
use Rattle.std.proofs.lemmas.Bool.{lt-ltb}
use Rattle.std.proofs.lemmas.List.Sums.{sum_by-append}
use Rattle.std.proofs.lemmas.List.Sorted.{sum_by-IsPermutation, length_permutation}
use Rattle.pass_sched.specs.Heaps.{tasks_of}
use Rattle.pass_sched.specs.Passes.{Run, room_of, is_failed}
use Rattle.pass_sched.proofs.Perms.{nil_of, through_last}
use Rattle.pass_sched.proofs.Plays.{run_of_living}
use Rattle.pass_sched.proofs.Underway.{shares, kids_few, step}
use Rattle.pass_sched.proofs.alone.take_turns.Goals as goal
use Rattle.pass_sched.proofs.alone.take_turns.Goals.{After-play, After-sort_out}

kids_are : (g : _) (c : After-play g) → c.play.new.born.items ≡ c.play.ensures.run.0
kids_are g c = c.play.ensures.run.1 ∙ ap (λ l. l ++ c.play.ensures.run.0) (nil_of c.args.bench.now.born.items (omega (arith, c.args.bench.now.born.ok.0)))

few_kids : (g : _) (c : After-play g) → 1 + vec_len c.play.new.born ≤ g.T.Task.left c.args.task
few_kids g c = omega (arith, kids_few g.T.Task c.args.task c.play.ensures.run.0 c.play.new.task c.requires.living c.play.ensures.run.2, ap length (kids_are g c), c.play.new.born.ok.0)

pub sort_out-requires-clause-pending : goal.sort_out-requires-clause-pending
sort_out-requires-clause-pending g c = omega (arith, few_kids g (goal.at.sort_out-requires-clause-pending g c).After-play)

pub sort_out-requires-clause-done : goal.sort_out-requires-clause-done
sort_out-requires-clause-done g c = omega (arith, few_kids g (goal.at.sort_out-requires-clause-done g c).After-play)

sorted_kids : (g : _) (c : After-sort_out g) → c.play.new.born.items ≡ c.play.ensures.run.0
sorted_kids g c = c.play.ensures.run.1 ∙ ap (λ l. l ++ c.play.ensures.run.0) (nil_of c.args.bench.now.born.items (omega (arith, c.args.bench.now.born.ok.0)))

-- the children that wait from now on, and those that stay
joined : (g : _) (c : After-sort_out g) → IsPermutation (tasks_of c.args.bench.now.pending ++ filter (λ kid. nat_lt (g.T.Task.order c.args.task) (g.T.Task.order kid)) c.play.ensures.run.0) (tasks_of c.sort_out.new.pending)
joined g c =
    let kids = sorted_kids g c in
    subst (λ (y : ℕ × List _). IsPermutation (tasks_of c.args.bench.now.pending ++ filter (λ kid. nat_lt y.0 (g.T.Task.order kid)) y.1) (tasks_of c.sort_out.new.pending)) (λ i. (c.order-above.ensures i, kids i)) c.sort_out.ensures.joining

stayed : (g : _) (c : After-sort_out g) → IsPermutation (c.args.bench.now.done.items ++ filter (λ kid. not (nat_lt (g.T.Task.order c.args.task) (g.T.Task.order kid))) c.play.ensures.run.0) c.sort_out.new.done.items
stayed g c =
    let kids = sorted_kids g c in
    subst (λ (y : ℕ × List _). IsPermutation (c.args.bench.now.done.items ++ filter (λ kid. not (nat_lt y.0 (g.T.Task.order kid))) y.1) c.sort_out.new.done.items) (λ i. (c.order-above.ensures i, kids i)) c.sort_out.ensures.staying

room_left : (g : _) (c : After-sort_out g) → 1 + vec_len c.sort_out.new.done + sum_by (room_of g.T.Task) (tasks_of c.sort_out.new.pending) ≤ vec_len c.args.bench.now.done + g.T.Task.left c.args.task + sum_by (room_of g.T.Task) (tasks_of c.args.bench.now.pending)
room_left g c =
    let p : _ → Bool = λ kid. nat_lt (g.T.Task.order c.args.task) (g.T.Task.order kid) in
    let kids = c.play.ensures.run.0 in
    omega (
      arith,
      shares g.T.Task p c.args.task kids c.play.new.task c.requires.living c.play.ensures.run.2,
      sum_by-IsPermutation (room_of g.T.Task) _ _ (joined g c),
      sum_by-append (room_of g.T.Task) (tasks_of c.args.bench.now.pending) (filter p kids),
      length_permutation _ _ (stayed g c),
      length-append c.args.bench.now.done.items (filter (λ kid. not (p kid)) kids),
      c.args.bench.now.done.ok.0,
      c.sort_out.new.done.ok.0,
    )

done_left : (g : _) (c : After-sort_out g) → 1 + vec_len c.sort_out.new.done ≤ vec_len c.args.bench.now.done + g.T.Task.left c.args.task
done_left g c =
    let p : _ → Bool = λ kid. nat_lt (g.T.Task.order c.args.task) (g.T.Task.order kid) in
    let kids = c.play.ensures.run.0 in
    omega (
      arith,
      shares g.T.Task p c.args.task kids c.play.new.task c.requires.living c.play.ensures.run.2,
      length_permutation _ _ (stayed g c),
      length-append c.args.bench.now.done.items (filter (λ kid. not (p kid)) kids),
      c.args.bench.now.done.ok.0,
      c.sort_out.new.done.ok.0,
    )

falls : (g : _) (c : After-sort_out g) → sum_by (room_of g.T.Task) (tasks_of c.sort_out.new.pending) < g.T.Task.left c.args.task + sum_by (room_of g.T.Task) (tasks_of c.args.bench.now.pending)
falls g c =
    let p : _ → Bool = λ kid. nat_lt (g.T.Task.order c.args.task) (g.T.Task.order kid) in
    let kids = c.play.ensures.run.0 in
    omega (
      arith,
      shares g.T.Task p c.args.task kids c.play.new.task c.requires.living c.play.ensures.run.2,
      sum_by-IsPermutation (room_of g.T.Task) _ _ (joined g c),
      sum_by-append (room_of g.T.Task) (tasks_of c.args.bench.now.pending) (filter p kids),
    )

pub push_reserved-requires : goal.push_reserved-requires
push_reserved-requires g c = omega (arith, done_left g (goal.at.push_reserved-requires g c).After-sort_out)

pub returns-clause-room : goal.returns-clause-room
returns-clause-room g c = omega (arith, room_left g (goal.at.returns-clause-room g c).After-sort_out)

pub returns-clause-falls : goal.returns-clause-falls
returns-clause-falls g c = falls g (goal.at.returns-clause-falls g c).After-sort_out

pub returns-clause-kept : goal.returns-clause-kept
returns-clause-kept g c given runs under =
    let run = c.play.ensures.run in
    let r : Run _ = record { before = c.args.task; after = c.play.new.task; kids = run.0 } in
    let living : nat_lt 0 (g.T.Task.left c.args.task) ≡ true = lt-ltb _ _ c.requires.living in (
      r,
      step g.T.Task true given runs (tasks_of c.args.bench.now.pending) c.args.bench.now.done.items (tasks_of c.sort_out.new.pending) c.push_reserved.new.self.items
          c.args.outcome.now.failed c.args.outcome.now.moved c.note.new.self.failed c.note.new.self.moved r under
          (run_of_living g.T.Task c.args.task run.0 c.play.new.task c.requires.living run.2)
          (joined g (goal.at.returns-clause-kept g c).After-sort_out)
          (through_last _ _ _ c.play.new.task (stayed g (goal.at.returns-clause-kept g c).After-sort_out) c.push_reserved.ensures.items)
          (c.note.ensures.failed ∙ ap (λ b. (b && is_failed (g.T.Task.last c.play.new.task)) || c.args.outcome.now.failed) (sym living))
          (c.note.ensures.moved ∙ ap (λ n. nat_lt (g.T.Task.left c.play.new.task) n || c.args.outcome.now.moved) c.left-had.ensures),
    )
