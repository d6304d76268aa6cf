-- A run, from its first process on.
use Rattle.std.proofs.Common.{◌≡◌, ◌≤◌, ◌+◌, ℕ, List, [], ◌∷◌, length, refl, ap, sym, ◌∙◌, subst, arith, sum_by}
use Rattle.std.specs.Prelude.{Option, Some}
use Rattle.std.proofs.lemmas.List.Sums.{sum_by-cons}
use Rattle.pass_plain.specs.Sessions.{Session}
use Rattle.pass_proc.specs.Procs.{ProcView}
use Rattle.pass_progress.specs.Progress.{IsBetween, NewbornLaw}
use Rattle.pass_replay.specs.Lines.{IsNextLine}
use Rattle.pass_replay.proofs.Begun.{first_has_begun}
use Rattle.pass_trace.specs.TraceLines.{plain_trace}
use Rattle.pass_trace.specs.declared.trace.TraceLine.{TraceLine}
use Rattle.pass_walk.specs.declared.children.Children.{Children}
use Rattle.pass_walk.specs.declared.walker.Living.{Living}
use Rattle.pass_walk.specs.Lefts.{left_in}
use Rattle.pass_turns.specs.Tasks.{new_task, task_room}
use Rattle.pass_turns.specs.Turners.{AreTasks, TurnerState}
use Rattle.pass_walk.specs.Walkers.{IsLivingOf}
use Rattle.pass_turns.proofs.Crews.{first_tasks}
use Rattle.pass_walk.proofs.Forks.{newborn_is}
use Rattle.pass_walk.proofs.LeftLemmas.{left_some}
use Rattle.pass_turns.proofs.Passing.{short}
use Rattle.pass_walk.proofs.Planned.{all_left}
use Rattle.pass_walk.proofs.Walks.{some_seen}

module _ (J : Type 0) (session : Session) (lines : List TraceLine) (newborn_law : NewbornLaw) (p : ProcView) (between : IsBetween session p) (first : (p.who ≡ session.start.ceiling + 1) × (p.number ≡ 0))
    (line : Option ℕ) (its_first : IsNextLine (plain_trace lines) 1 0 line) (children : Children) where
  abbrev pub first_living : Living J
  first_living = record { process = 1; line = line; children = children; proc = p }

  -- the first process is one of the run
  pub first_is : IsLivingOf session (plain_trace lines) first_living
  first_is =
      let (newborn, rest) = newborn_law session p between first.1 in
      newborn_is session (plain_trace lines) 1 p newborn rest line its_first
      (first_has_begun session (plain_trace lines) p.seen (some_seen p.seen p.who newborn.begun) ∙ ap (λ w. Some w) (sym first.0)) children

  -- its task alone
  pub first_are : AreTasks lines (session.start.ceiling + 1) (new_task lines first_living ∷ [])
  first_are =
      let (newborn, rest) = newborn_law session p between first.1 in
      subst (λ w. AreTasks lines w (new_task lines first_living ∷ [])) first.0 (first_tasks lines (new_task lines first_living) refl refl newborn.silent)

  -- what comes of it has room
  pub trails_fit : (tasks : List TurnerState) (room : ℕ) → sum_by task_room tasks ≤ sum_by task_room (new_task lines first_living ∷ []) → left_in (plain_trace lines) 1 ≤ room → length tasks ≤ room
  trails_fit tasks room fewer fits =
      let a = short tasks in
      let b = sum_by-cons task_room (new_task lines first_living) [] in
      let d = all_left (plain_trace lines) 1 line its_first in
      let e = left_some (plain_trace lines) 1 in
      omega (arith, a, b, d, e, fewer, fits)
