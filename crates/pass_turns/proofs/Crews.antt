-- From the tasks of a run to the history that its store hands out.
use Rattle.std.proofs.Common.{◌≡◌, ◌≢◌, ◌≤◌, ◌+◌, ℕ, List, [], ◌∷◌, map, refl, ap, sym, ◌∙◌, subst, true, false, All, inl, inr, Some, None, length, arith}
use Rattle.std.specs.Prelude.{slice_get, Contains}
use Rattle.std.proofs.lemmas.List.Elements.{All-contains, Contains-push}
use Rattle.pass_entry.specs.declared.entry.Entry.{Entry}
use Rattle.pass_plain.specs.Legal.{is_over}
use Rattle.pass_plain.specs.Processes.{has_ended}
use Rattle.pass_plain.specs.Sessions.{Session}
use Rattle.pass_plain.specs.Traces.{calls_of}
use Rattle.pass_trace.specs.TraceLines.{plain_trace}
use Rattle.pass_trace.specs.declared.trace.TraceLine.{TraceLine}
use Rattle.pass_proc.specs.Ends.{TrailView}
use Rattle.pass_proc.specs.Procs.{ProcView}
use Rattle.pass_progress.specs.Progress.{IsNewborn}
use Rattle.pass_replay.specs.Members.{Member, HasMember, HasChildren, MakesSteps, AreMembers, AreStill, Waits}
use Rattle.pass_walk.specs.declared.ends.Cause.{Cause}
use Rattle.pass_walk.specs.declared.ends.Cause.TheVariants as causes
use Rattle.pass_walk.specs.declared.ends.Last.{Last}
use Rattle.pass_walk.specs.declared.ends.Last.TheVariants as lasts
use Rattle.pass_walk.specs.Causes.{IsSeen}
use Rattle.pass_turns.specs.Performed.{IsPerformed}
use Rattle.pass_walk.specs.Runs.{IsRanBy, IsSomeCause, trail_of}
use Rattle.pass_turns.specs.Turners.{TurnerState, task_member, task_trail, HasTask, AreTasks, AreAllStill, HasLeftFor, IsKnown, IsStill}
use Rattle.pass_walk.proofs.Among.{Among, among, contains, of_map, to_map, all_of}

-- a member comes of a task
of_members : (tasks : List TurnerState) (m : Member) → Contains (map task_member tasks) m → (t : TurnerState) × Contains tasks t × (task_member t ≡ m)
of_members tasks m h = let (t, there, same) = of_map task_member tasks m (among (map task_member tasks) m h) in (t, contains tasks t there, same)

a_member : (tasks : List TurnerState) (t : TurnerState) → Contains tasks t → Contains (map task_member tasks) (task_member t)
a_member tasks t h = contains (map task_member tasks) (task_member t) (to_map task_member tasks t (among tasks t h))

to_member : (tasks : List TurnerState) (q w : ℕ) → HasTask tasks q w → HasMember (map task_member tasks) q w
to_member tasks q w has = record { member = task_member has.task; among = a_member tasks has.task has.among; number = has.number; is = has.is }

trails_same : (tasks : List TurnerState) → map task_trail tasks ≡ map trail_of (map task_member tasks)
trails_same [] = refl
trails_same (t ∷ ts) = ap (λ us. task_trail t ∷ us) (trails_same ts)

module _ (session : Session) (places : ℕ) (lines : List TraceLine) (first : ℕ) (tasks : List TurnerState) (are : AreTasks lines first tasks) (knows : All (IsKnown session places) tasks) where
  lines_of : (t : TurnerState) → Contains tasks t → t.lines ≡ lines
  lines_of t h = All-contains (λ t. t.lines ≡ lines) tasks t are.each h

  know : (t : TurnerState) → Contains tasks t → IsKnown session places (record t { lines = lines })
  know t h = subst (λ ls. IsKnown session places (record t { lines = ls })) (lines_of t h) (All-contains (IsKnown session places) tasks t knows h)

  members : AreMembers first (plain_trace lines) (map task_member tasks)
  members = record {
    first_is = to_member tasks 1 first are.first_is;
    make = λ m h. let (t, there, same) = of_members tasks m h in subst (λ (m : Member). MakesSteps (plain_trace lines) m.process m.who m.seen) same (know t there).makes;
    bear = λ m h. let (t, there, same) = of_members tasks m h in
        subst (λ (m : Member). HasChildren (plain_trace lines) (map task_member tasks) m) same (λ n e out descriptors at by born.
        let b = are.bears t there n e out descriptors at by born in
        record { number = b.number; child = b.child; counted = b.counted; forks = b.forks; there = to_member tasks b.child e.what b.there });
    ended = λ m h. let (t, there, same) = of_members tasks m h in
        subst (λ (m : Member). m.ended ≡ true → is_over m.seen m.who (length (calls_of (plain_trace lines) m.process)) ≡ true) same (know t there).ended;
    living = λ m h. let (t, there, same) = of_members tasks m h in subst (λ (m : Member). m.ended ≡ false → has_ended m.seen m.who ≡ false) same (know t there).living;
  }

  all_still : AreAllStill session tasks → (count : ℕ) × AreStill session (plain_trace lines) (map task_member tasks) count
  all_still still =
      let each : (t : TurnerState) → Contains tasks t → IsStill session still.count t = λ t h. All-contains (IsStill session still.count) tasks t still.all h in (
        still.count,
        record {
          one = task_member still.some.one;
          among = a_member tasks still.some.one still.some.among;
          lives = still.some.lives;
          alike = λ m h. let (t, there, same) = of_members tasks m h in subst (λ (m : Member). m.ended ≡ false → length m.seen ≡ still.count) same (each t there).living;
          waits = λ m h. let (t, there, same) = of_members tasks m h in
              subst (λ (m : Member). m.ended ≡ false → Waits session (plain_trace lines) m) same
              (λ alive. subst (λ ls. Waits session (plain_trace ls) (task_member t)) (lines_of t there) ((each t there).waits alive));
          fewer = λ m h. let (t, there, same) = of_members tasks m h in subst (λ (m : Member). m.ended ≡ true → length m.seen ≤ still.count) same (each t there).ended;
        },
      )

  some_cause : (cause : Cause) → HasLeftFor tasks cause → IsSomeCause session places (plain_trace lines) (map task_member tasks) cause
  some_cause cause has = record { one = task_member has.one; among = a_member tasks has.one has.among; is = (know has.one has.among).cause cause has.is }

pub ran_by : (session : Session) (places : ℕ) (lines : List TraceLine) (trails : List TrailView) (last : Last) → IsPerformed session places lines trails last → IsRanBy session places (plain_trace lines) trails last
ran_by session places lines trails last is = record {
  members = map task_member is.tasks;
  trails_are = is.trails_are ∙ trails_same is.tasks;
  made = members session places lines (session.start.ceiling + 1) is.tasks is.are is.known;
  done = λ done m h. let (t, there, same) = of_members is.tasks m h in
      ap (λ (m : Member). m.ended) (sym same) ∙ (All-contains (IsKnown session places) is.tasks t is.known there).through (All-contains (λ t. t.left ≡ 0) is.tasks t (is.done done) there);
  stuck = λ stuck. all_still session places lines (session.start.ceiling + 1) is.tasks is.are is.known (is.stuck stuck);
  failed = λ cause failed seen. some_cause session places lines (session.start.ceiling + 1) is.tasks is.are is.known cause (is.failed cause failed seen);
}

-- one task whose process has made no entry
pub first_tasks : (lines : List TraceLine) (t : TurnerState) → t.lines ≡ lines → t.process ≡ 1 → ((n : ℕ) (e : Entry) → slice_get t.seen n ≡ Some e → e.who ≢ t.who) → AreTasks lines t.who (t ∷ [])
first_tasks lines t home one silent = record {
  first_is = record { task = t; among = Contains-push [] t; number = one; is = refl };
  each = all_of (λ t. t.lines ≡ lines) (t ∷ []) (λ u h. only u (among (t ∷ []) u h));
  bears = λ u h n e out descriptors at by born. absurd (quiet u (among (t ∷ []) u h) n e at by);
}
  where
    only : (u : TurnerState) → Among u (t ∷ []) → u.lines ≡ lines
    only u (inl same) = ap (λ (t : TurnerState). t.lines) (sym same) ∙ home
    only u (inr none) = absurd none

    quiet : (u : TurnerState) → Among u (t ∷ []) → (n : ℕ) (e : Entry) → slice_get u.seen n ≡ Some e → e.who ≡ u.who → ⊥
    quiet u (inl same) n e at by = silent n e (ap (λ (t : TurnerState). slice_get t.seen n) same ∙ at) (by ∙ ap (λ (t : TurnerState). t.who) (sym same))
    quiet u (inr none) n e at by = absurd none

-- the first process alone, where no pass was made
abbrev pub unmade_task : List TraceLine → ProcView → TurnerState
unmade_task lines p = record { lines = lines; process = 1; who = p.who; seen = p.seen; ended = false; left = 1; turns = 0; last = None; waits = false; cause = None }

pub unmade_known : (session : Session) (places : ℕ) (lines : List TraceLine) (p : ProcView) → IsNewborn session p.who p.seen → IsKnown session places (unmade_task lines p)
unmade_known session places lines p newborn = record {
  makes = record { begun = newborn.begun; steps = λ n e at by. absurd (newborn.silent n e at by) };
  ended = λ h. absurd (let z : false ≡ true = h in cc);
  through = λ h. absurd (omega (arith, h));
  living = λ h. newborn.living;
  cause = λ c h. absurd (let z : None ≡ Some c = h in cc);
}

pub unmade_so : (session : Session) (places : ℕ) (lines : List TraceLine) (p : ProcView) → IsNewborn session p.who p.seen → p.who ≡ session.start.ceiling + 1
    → IsPerformed session places lines (record { who = p.who; seen = p.seen } ∷ []) (lasts.Failed causes.NoMemory)
unmade_so session places lines p newborn first = record {
  tasks = unmade_task lines p ∷ [];
  are = subst (λ w. AreTasks lines w (unmade_task lines p ∷ [])) first (first_tasks lines (unmade_task lines p) refl refl newborn.silent);
  known = all_of (IsKnown session places) (unmade_task lines p ∷ []) (λ u h. only u (among (unmade_task lines p ∷ []) u h));
  trails_are = refl;
  done = λ h. absurd (let z : lasts.Failed causes.NoMemory ≡ lasts.Done = h in cc);
  stuck = λ h. absurd (let z : lasts.Failed causes.NoMemory ≡ lasts.Stuck = h in cc);
  failed = λ cause h seen. absurd (subst IsSeen (starved cause h) seen);
}
  where
    starved : (cause : Cause) → lasts.Failed causes.NoMemory ≡ lasts.Failed cause → cause ≡ causes.NoMemory
    starved cause h = cc

    only : (u : TurnerState) → Among u (unmade_task lines p ∷ []) → IsKnown session places u
    only u (inl same) = subst (IsKnown session places) same (unmade_known session places lines p newborn)
    only u (inr none) = absurd none
