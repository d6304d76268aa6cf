use Rattle.std.proofs.Common.{◌≡◌, ◌≤◌, ◌+◌, ℕ, ap, arith, subst, Some}
use Rattle.pass_trace.specs.TraceLines.{plain_trace}
use Rattle.pass_turns.specs.Tasks.{task_of, kid_tasks}
use Rattle.pass_turns.specs.Turners.{TurnerState}
use Rattle.pass_walk.specs.declared.walker.Went.{Went}
use Rattle.pass_walk.specs.Walkers.{left_of}
use Rattle.pass_turns.proofs.task.TurnerTask.turn.Goals as goal
use Rattle.pass_turns.proofs.TaskTurns.{IsWholeTurn, turned, walker_is, walker_waits}
use Rattle.pass_turns.proofs.Knowing.{rises_some}

room_for : (len left its most : ℕ) → len + its ≤ most → left ≡ its → len + left ≤ most
room_for len left its most room same = omega (arith, room, same)

pub walk-answer-requires-clause-room : goal.walk-answer-requires-clause-room
walk-answer-requires-clause-room g c =
    room_for _ (left_of (plain_trace c.self.inside.ground.now.plan.now) c.self.inside.walker) c.args.self.now.left _ c.requires (ap (λ (t : TurnerState). t.left) c.self.view_is)

pub returns-clause-turn : goal.returns-clause-turn
returns-clause-turn g c =
    let lines = c.self.inside.ground.now.plan.now in
    let (kid, went, born) = c.walk-answer.ensures.went in
    let w : Went g.row.J.Denot = record { walker = c.walk-answer.new.walker; answer = c.walk-answer.result; kid = kid } in
    let both = turned g.J.Whose.book.session g.J.Whose.places lines c.self.inside.walker w c.self.invariant.0 went c.self.inside.turns c.one_more-self-inside.result c.self.inside.last c.self.inside.waits c.is_waiting-self-inside.result c.one_more-self-inside.ensures in
    let whole = subst (λ (before : TurnerState). IsWholeTurn before (kid_tasks lines kid) c.walk-answer.result (task_of lines c.walk-answer.new.walker c.one_more-self-inside.result (Some c.walk-answer.result) c.is_waiting-self-inside.result)) c.self.view_is both in
    (kid_tasks lines kid, born, whole.0, whole.1)

pub invariant_of-self : goal.invariant_of-self
invariant_of-self g c =
    let lines = c.self.inside.ground.now.plan.now in
    let (kid, went, born) = c.walk-answer.ensures.went in
    let w : Went g.row.J.Denot = record { walker = c.walk-answer.new.walker; answer = c.walk-answer.result; kid = kid } in (
      walker_is g.J.Whose.book.session g.J.Whose.places lines c.self.inside.walker w c.self.invariant.0 went,
      rises_some c.self.inside.turns c.one_more-self-inside.result c.one_more-self-inside.ensures,
      λ h. walker_waits g.J.Whose.book.session g.J.Whose.places lines c.self.inside.walker w went (c.is_waiting-self-inside.ensures h),
    )
