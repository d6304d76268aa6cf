-- What a pass makes of the tasks, and how it ends. All of it is this project's own rule.
use Rattle.std.specs.Prelude.{◌≡◌, ◌≢◌, ℕ, ◌+◌, ◌≤◌, ◌<◌, ◌⊎◌, Bool, true, false, not, ◌&&◌, ◌==◌, nat_lt, max, if◌then◌else◌, List, [], ◌++◌, Option, Some, None, All, map, filter, sum_by, IsPermutation}
use Rattle.std.specs.List.{list_any, list_all, flat_map}
use Rattle.pass_sched.specs.declared.task.Turn.{Turn}
use Rattle.pass_sched.specs.declared.task.Turn.TheVariants.{Moved, Waiting, Ended, Failed}
use Rattle.pass_sched.specs.declared.task.Task.{Ghosts}
use Rattle.pass_sched.specs.declared.pass.PassEnd.{PassEnd}
use Rattle.pass_sched.specs.declared.pass.PassEnd.TheVariants.{AllEnded, AllWaiting, GoOn, OneFailed}
use Rattle.pass_sched.specs.Turns.{IsTurn, Rises}

-- a task's part in a pass: the task before and after, and the children that its turns bore
pub record Run (X : Type 0) : Type 0 where
  pub before : X
  pub after : X
  pub kids : List X

abbrev pub is_failed : Option Turn → Bool
is_failed None = false
is_failed (Some Moved) = false
is_failed (Some Waiting) = false
is_failed (Some Ended) = false
is_failed (Some Failed) = true

-- the first of the four that applies
abbrev pub end_by : Bool → Bool → Bool → PassEnd
end_by one_failed all_ended one_moved = if one_failed then OneFailed else (if all_ended then AllEnded else (if one_moved then GoOn else AllWaiting))

module _ {X : Type 0} (t : Ghosts X) where
  -- one turn of a task, with what its type says of it
  abbrev pub Takes : X → List X → Turn → X → Type 0
  Takes before kids answer after = IsTurn t.order t.left t.turns t.last before kids answer after × t.turn_gives before kids answer after

  -- turns in a row, each of which moved
  pub data Moves : X → List X → X → Type 0 where
    start : {before : X} → Moves before [] before
    more : {before middle after : X} {kids born both : List X} → Moves before kids middle → Takes middle born Moved after → both ≡ kids ++ born → Moves before both after

  -- turns in a row until one waits, ends or fails
  abbrev pub RunsOut : X → List X → X → Type 0
  RunsOut before kids after = (middle : X) × (answer : Turn) × Moves before kids middle × Takes middle [] answer after × (answer ≢ Moved)

  -- a task that had ended stays as it was; a living one takes turns until it waits, ends or fails
  pub record IsRun (r : Run X) : Type 0 where
    pub ended : t.left r.before ≡ 0 → (r.after ≡ r.before) × (r.kids ≡ [])
    pub living : 0 < t.left r.before → RunsOut r.before r.kids r.after
    pub same_order : t.order r.after ≡ t.order r.before
    pub rises : 0 < t.left r.before → Rises (t.turns r.before) (t.turns r.after)
    pub rests : 0 < t.left r.before → (t.left r.after ≡ 0) ⊎ ((t.last r.after ≡ Some Waiting) ⊎ (t.last r.after ≡ Some Failed))
    pub falls : t.left r.after + sum_by t.left r.kids ≤ t.left r.before
    pub kids_live : All (λ kid. 0 < t.left kid) r.kids

  -- with one worker a child takes part in the pass in which it is born where its order is above its parent's, and with more workers none does
  abbrev pub takes_part : Bool → Run X → X → Bool
  takes_part alone r kid = alone && nat_lt (t.order r.before) (t.order kid)

  abbrev pub joining : Bool → Run X → List X
  joining alone r = filter (λ kid. takes_part alone r kid) r.kids

  abbrev pub staying : Bool → Run X → List X
  staying alone r = filter (λ kid. not (takes_part alone r kid)) r.kids

  -- each given task, and each child that takes part, has one run; the answer has each of them after its run, and each other child as it was born
  pub record IsPass (alone : Bool) (given : List X) (runs : List (Run X)) (answer : List X) : Type 0 where
    pub each_runs : All IsRun runs
    pub each_once : IsPermutation (given ++ flat_map (joining alone) runs) (map (λ r. r.before) runs)
    pub none_lost : IsPermutation (map (λ r. r.after) runs ++ flat_map (staying alone) runs) answer

  -- how many tasks can come of this one, itself with them
  abbrev pub room_of : X → ℕ
  room_of x = max 1 (t.left x)

  abbrev pub has_failed : Run X → Bool
  has_failed r = nat_lt 0 (t.left r.before) && is_failed (t.last r.after)

  abbrev pub has_moved : Run X → Bool
  has_moved r = nat_lt (t.left r.after) (t.left r.before)

  abbrev pub has_ended : X → Bool
  has_ended x = t.left x == 0

  -- how a pass of these runs ends, which has this answer
  abbrev pub end_of : List (Run X) → List X → PassEnd
  end_of runs answer = end_by (list_any has_failed runs) (list_all has_ended answer) (list_any has_moved runs)

  -- a pass that is not over: these tasks still wait for their part, and these are through
  pub record IsUnderway (alone : Bool) (given : List X) (runs : List (Run X)) (waiting answer : List X) (failed moved : Bool) : Type 0 where
    pub each_runs : All IsRun runs
    pub each_once : IsPermutation (given ++ flat_map (joining alone) runs) (map (λ r. r.before) runs ++ waiting)
    pub none_lost : IsPermutation (map (λ r. r.after) runs ++ flat_map (staying alone) runs) answer
    pub failed_is : failed ≡ list_any has_failed runs
    pub moved_is : moved ≡ list_any has_moved runs
