use Rattle.std.proofs.Common.{◌≡◌, List, ap, arith, subst, sum_by, sym}
use Rattle.std.proofs.lemmas.List.Elements.{All-append}
use Rattle.std.proofs.lemmas.List.Sums.{sum_by-append}
use Rattle.pass_turns.specs.Tasks.{task_room}
use Rattle.pass_turns.specs.Turners.{AreTasks, TurnerState}
use Rattle.pass_turns.proofs.crew.Crew.pass.Goals as goal

pub returns-clause-tasks : goal.returns-clause-tasks
returns-clause-tasks g c lines first are = c.pass-tasks.ensures.tasks lines first c.self.inside.ended.items c.self.invariant (subst (AreTasks lines first) (sym c.self.view_is) are)

pub returns-clause-room : goal.returns-clause-room
returns-clause-room g c =
    let before = ap (λ (ts : List TurnerState). sum_by task_room ts) c.self.view_is in
    let old = sum_by-append task_room c.self.inside.turning.items c.self.inside.ended.items in
    let new = sum_by-append task_room c.pass-tasks.result.tasks.items c.self.inside.ended.items in
    omega (arith, before, old, new, c.pass-tasks.ensures.room)

pub returns-clause-ended : goal.returns-clause-ended
returns-clause-ended g c is = All-append (λ (t : TurnerState). t.left ≡ 0) c.pass-tasks.result.tasks.items c.self.inside.ended.items (c.pass-tasks.ensures.ended is) c.self.invariant
