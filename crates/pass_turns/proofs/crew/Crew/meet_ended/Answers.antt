use Rattle.std.proofs.Common.{◌≡◌, ◌∙◌, List, ap, inl, inr, subst, sum_by, sym}
use Rattle.std.specs.Prelude.{Contains}
use Rattle.std.proofs.lemmas.List.Elements.{All-contains, Contains-append_cases}
use Rattle.pass_turns.specs.Tasks.{task_room}
use Rattle.pass_turns.specs.Turners.{AreTasks, TurnerState}
use Rattle.pass_turns.proofs.Meetings.{later_none}
use Rattle.pass_turns.proofs.crew.Crew.meet_ended.Goals as goal

pub invariant_of-result : goal.invariant_of-result
invariant_of-result g c = later_none c.self.inside.ended.items c.meet_all.new.ended.items c.meet_all.ensures.ended c.self.invariant

pub returns-clause-tasks : goal.returns-clause-tasks
returns-clause-tasks g c lines first are = c.meet_all.ensures.tasks lines first (subst (λ (ts : List TurnerState). AreTasks lines first ts) (sym c.self.view_is) are)

pub returns-clause-room : goal.returns-clause-room
returns-clause-room g c = c.meet_all.ensures.room ∙ ap (λ (ts : List TurnerState). sum_by task_room ts) c.self.view_is

pub returns-clause-met : goal.returns-clause-met
returns-clause-met g c t there goes =
    elim (Contains-append_cases c.self.inside.turning.items c.self.inside.ended.items t (subst (λ (ts : List TurnerState). Contains ts t) (sym c.self.view_is) there)) [
      | inl among ↦ c.meet_all.ensures.met t among goes
      | inr aside ↦ absurd (goes.0 (All-contains (λ (t : TurnerState). t.left ≡ 0) c.self.inside.ended.items t c.self.invariant aside))
    ]
