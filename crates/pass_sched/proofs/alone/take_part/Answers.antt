use Rattle.std.proofs.Common.{◌≡◌, [], ◌&&◌, ◌||◌, true, false, nat_lt, ap, sym, ◌∙◌, append-nil, arith}
use Rattle.std.proofs.lemmas.Bool.{le-ltb}
use Rattle.pass_sched.specs.Heaps.{tasks_of}
use Rattle.pass_sched.specs.Passes.{Run, is_failed}
use Rattle.pass_sched.proofs.Perms.{same, through_last}
use Rattle.pass_sched.proofs.Plays.{run_of_ended}
use Rattle.pass_sched.proofs.Underway.{step}
use Rattle.pass_sched.proofs.alone.take_part.Goals as goal

pub returns-then-left-eq0-clause-kept : goal.returns-then-left-eq0-clause-kept
returns-then-left-eq0-clause-kept g c given runs under =
    let r : Run _ = record { before = c.args.task; after = c.args.task; kids = [] } in
    let none : g.T.Task.left c.args.task ≡ 0 = sym c.left.ensures ∙ c.if-left-eq0.true in
    let ended : nat_lt 0 (g.T.Task.left c.args.task) ≡ false = le-ltb _ _ (omega arith) in
    let still : nat_lt (g.T.Task.left c.args.task) (g.T.Task.left c.args.task) ≡ false = le-ltb _ _ (omega arith) in (
      r,
      step g.T.Task true given runs (tasks_of c.args.bench.now.pending) c.args.bench.now.done.items (tasks_of c.args.bench.now.pending) c.push_reserved.new.self.items
          c.args.outcome.now.failed c.args.outcome.now.moved c.args.outcome.now.failed c.args.outcome.now.moved r under
          (run_of_ended g.T.Task c.args.task none)
          (same _ _ (append-nil (tasks_of c.args.bench.now.pending)))
          (through_last _ _ _ c.args.task (same _ _ (append-nil c.args.bench.now.done.items)) c.push_reserved.ensures.items)
          (ap (λ b. (b && is_failed (g.T.Task.last c.args.task)) || c.args.outcome.now.failed) (sym ended))
          (ap (λ b. b || c.args.outcome.now.moved) (sym still)),
    )
