-- A turn of a task.
use Rattle.std.proofs.Common.{◌≡◌, ◌≢◌, ◌<◌, ◌≤◌, ◌+◌, ℕ, List, [], length, refl, ap, sym, ◌∙◌, subst, arith, sum_by, All, Bool}
use Rattle.std.specs.Prelude.{Option, Some, None}
use Rattle.std.proofs.lemmas.List.{append-nil}
use Rattle.std.proofs.lemmas.List.Elements.{All-nil, All-cons, Contains-push}
use Rattle.std.proofs.lemmas.Option.{slice_get_within}
use Rattle.pass_entry.specs.declared.entry.Entry.{Entry}
use Rattle.pass_plain.specs.Sessions.{Session}
use Rattle.pass_trace.specs.TraceLines.{plain_trace}
use Rattle.pass_sched.specs.declared.task.Turn.{Turn}
use Rattle.pass_sched.specs.declared.task.Turn.TheVariants as turn
use Rattle.pass_sched.specs.Turns.{IsTurn, Rises, spent}
use Rattle.pass_trace.specs.declared.trace.TraceLine.{TraceLine}
use Rattle.pass_replay.specs.Members.{Waits}
use Rattle.pass_walk.specs.declared.walker.Living.{Living}
use Rattle.pass_walk.specs.declared.walker.Walker.{Walker}
use Rattle.pass_walk.specs.declared.walker.Walker.TheVariants as walker
use Rattle.pass_walk.specs.declared.walker.Went.{Went}
use Rattle.pass_walk.specs.Lefts.{left_at}
use Rattle.pass_turns.specs.Tasks.{task_of, new_task, kid_tasks}
use Rattle.pass_turns.specs.Turners.{TurnerState, IsBirthAmong, IsNewTask, Turned}
use Rattle.pass_walk.specs.Walkers.{IsWalkerOf, IsKidIfAny, IsBornBy, WalkerWent, HasWent, left_of, kid_left, member_of}
use Rattle.pass_walk.proofs.LeftLemmas.{left_at_some}

abbrev pub IsTaskTurn : TurnerState → List TurnerState → Turn → TurnerState → Type 0
IsTaskTurn = IsTurn (λ (t : TurnerState). t.process) (λ t. t.left) (λ t. t.turns) (λ t. t.last)

-- a turn of a task, and what its type says of it
abbrev pub IsWholeTurn : TurnerState → List TurnerState → Turn → TurnerState → Type 0
IsWholeTurn before kids answer after = IsTaskTurn before kids answer after × Turned before kids after

-- a process that stays as it is
stays : (t after : TurnerState) → after.lines ≡ t.lines → after.process ≡ t.process → after.who ≡ t.who → after.seen ≡ t.seen → Turned t [] after
stays t after lines_are process who seen = record {
  lines = lines_are;
  process = process;
  who = who;
  begins = ([], append-nil t.seen ∙ sym seen);
  new_tasks = All-nil _;
  births = λ n f out descriptors at later by born. (let z = slice_get_within after.seen n f at in let y = ap length seen in absurd (omega (arith, z, y, later)));
}

module _ {J : Type 0} (session : Session) (places : ℕ) (lines : List TraceLine) where
  left_sum : (kid : Option (Living J)) → sum_by (λ (t : TurnerState). t.left) (kid_tasks lines kid) ≡ kid_left (plain_trace lines) kid
  left_sum None = refl
  left_sum (Some kid) = omega arith

  kids_live : (kid : Option (Living J)) → All (λ (t : TurnerState). 0 < t.left) (kid_tasks lines kid)
  kids_live None = All-nil _
  kids_live (Some kid) = All-cons (λ (t : TurnerState). 0 < t.left) (new_task lines kid) [] (let z = left_at_some (plain_trace lines) kid.process kid.line in omega (arith, z)) (All-nil _)

  kids_new : (kid : Option (Living J)) → IsKidIfAny session (plain_trace lines) kid → All (IsNewTask lines) (kid_tasks lines kid)
  kids_new None is = All-nil _
  kids_new (Some kid) is = All-cons (IsNewTask lines) (new_task lines kid) [] (record { same = refl; silent = is.silent }) (All-nil _)

  no_kids : (kid : Option (Living J)) → kid ≡ None → kid_tasks lines kid ≡ []
  no_kids None is = refl
  no_kids (Some kid) is = absurd (cc)

  module _ (l : Living J) (w : Went J) (went : HasWent session places (plain_trace lines) l w) (turns now : ℕ) (last : Option Turn) (was waits : Bool) (rises : Rises turns now) where
    falls_as : (a : Turn) → w.answer ≡ a → left_of (plain_trace lines) w.walker + spent (λ (t : TurnerState). t.process) (λ t. t.left) (λ t. t.turns) (λ t. t.last) a (kid_tasks lines w.kid) ≡ left_at (plain_trace lines) l.process l.line
    falls_as turn.Moved is = (let a = went.moved is in let b = left_sum w.kid in omega (arith, a, b))
    falls_as turn.Waiting is = (let a = (went.stayed (λ m. let z : turn.Waiting ≡ turn.Moved = sym is ∙ m in cc)).0 in omega (arith, a))
    falls_as turn.Failed is = (let a = (went.stayed (λ m. let z : turn.Failed ≡ turn.Moved = sym is ∙ m in cc)).0 in omega (arith, a))
    falls_as turn.Ended is = absurd (went.goes_on is)

    births_as : (kid : Option (Living J)) (e : Entry) → IsBornBy (plain_trace lines) l.process e kid → IsBirthAmong (plain_trace lines) (kid_tasks lines kid) l.process e
    births_as None e is = absurd is
    births_as (Some kid) e is = record {
      number = is.number;
      child = kid.process;
      counted = is.counted;
      forks = is.forks;
      there = record { task = new_task lines kid; among = Contains-push [] (new_task lines kid); number = refl; is = is.is };
    }

    living_turn : IsWholeTurn (task_of lines (walker.Living l) turns last was) (kid_tasks lines w.kid) w.answer (task_of lines w.walker now (Some w.answer) waits)
    living_turn = (
      record {
        same_order = went.process;
        rises = rises;
        is_last = refl;
        falls = falls_as w.answer refl;
        born_by_moves = λ h. no_kids w.kid (went.stayed h).1;
        kids_live = kids_live w.kid;
        ends = ((λ h. absurd (went.goes_on h)), (λ h. let z = left_at_some (plain_trace lines) l.process l.line in absurd (omega (arith, z, h))));
      },
      record {
        lines = refl;
        process = went.process;
        who = went.who;
        begins = went.begins;
        new_tasks = kids_new w.kid went.kid;
        births = λ n e out descriptors at later by born. births_as w.kid e (went.births n e out descriptors at later by born);
      },
    )

  idle_turn : (v : Walker J) (answer : Turn) (turns now : ℕ) (last : Option Turn) (was waits : Bool) → Rises turns now → (answer ≡ turn.Ended → left_of (plain_trace lines) v ≡ 0) → (left_of (plain_trace lines) v ≡ 0 → answer ≡ turn.Ended)
      → answer ≢ turn.Moved → IsWholeTurn (task_of lines v turns last was) [] answer (task_of lines v now (Some answer) waits)
  idle_turn v answer turns now last was waits rises ends is_ended stays_put = (
    record {
      same_order = refl;
      rises = rises;
      is_last = refl;
      falls = falls_so answer stays_put;
      born_by_moves = λ h. refl;
      kids_live = All-nil _;
      ends = (ends, is_ended);
    },
    stays (task_of lines v turns last was) (task_of lines v now (Some answer) waits) refl refl refl refl,
  )
    where
      falls_so : (a : Turn) → a ≢ turn.Moved → left_of (plain_trace lines) v + spent (λ (t : TurnerState). t.process) (λ t. t.left) (λ t. t.turns) (λ t. t.last) a [] ≡ left_of (plain_trace lines) v
      falls_so turn.Moved h = absurd (h refl)
      falls_so turn.Waiting h = omega arith
      falls_so turn.Failed h = omega arith
      falls_so turn.Ended h = omega arith

  -- a turn of a task
  pub turned : (v : Walker J) (w : Went J) → IsWalkerOf session places (plain_trace lines) v → WalkerWent session places (plain_trace lines) v w → (turns now : ℕ) (last : Option Turn) (was waits : Bool) → Rises turns now
      → IsWholeTurn (task_of lines v turns last was) (kid_tasks lines w.kid) w.answer (task_of lines w.walker now (Some w.answer) waits)
  turned (walker.Living l) w is went turns now last was waits rises = living_turn l w went turns now last was waits rises
  turned (walker.Ended e) w is went turns now last was waits rises =
      subst (λ (w : Went J). IsWholeTurn (task_of lines (walker.Ended e) turns last was) (kid_tasks lines w.kid) w.answer (task_of lines w.walker now (Some w.answer) waits)) (sym went)
      (idle_turn (walker.Ended e) turn.Ended turns now last was waits rises (λ h. refl) (λ h. refl) (λ h. let z : turn.Ended ≡ turn.Moved = h in cc))
  turned (walker.Left l) w is went turns now last was waits rises =
      subst (λ (w : Went J). IsWholeTurn (task_of lines (walker.Left l) turns last was) (kid_tasks lines w.kid) w.answer (task_of lines w.walker now (Some w.answer) waits)) (sym went)
      (idle_turn (walker.Left l) turn.Failed turns now last was waits rises (λ h. absurd (let z : turn.Failed ≡ turn.Ended = h in cc)) (λ h. let z = is.some in absurd (omega (arith, z, h))) (λ h. let z : turn.Failed ≡ turn.Moved = h in cc))
  turned walker.Gone w is went turns now last was waits rises = absurd went

  pub kid_is : (v : Walker J) (w : Went J) → WalkerWent session places (plain_trace lines) v w → IsKidIfAny session (plain_trace lines) w.kid
  kid_is (walker.Living l) w went = went.kid
  kid_is (walker.Ended e) w went = subst (λ (w : Went J). IsKidIfAny session (plain_trace lines) w.kid) (sym went) tt
  kid_is (walker.Left l) w went = subst (λ (w : Went J). IsKidIfAny session (plain_trace lines) w.kid) (sym went) tt
  kid_is walker.Gone w went = absurd went

  one_at_most : (kid : Option (Living J)) → length (kid_tasks lines kid) ≤ 1
  one_at_most None = omega arith
  one_at_most (Some kid) = omega arith

  pub kid_fits : (v : Walker J) (w : Went J) → WalkerWent session places (plain_trace lines) v w → length (kid_tasks lines w.kid) ≤ left_of (plain_trace lines) v
  kid_fits (walker.Living l) w went = (let a = one_at_most w.kid in let b = left_at_some (plain_trace lines) l.process l.line in omega (arith, a, b))
  kid_fits (walker.Ended e) w went = subst (λ (w : Went J). length (kid_tasks lines w.kid) ≤ 0) (sym went) (omega arith)
  kid_fits (walker.Left l) w went = subst (λ (w : Went J). length (kid_tasks lines w.kid) ≤ l.left) (sym went) (omega arith)
  kid_fits walker.Gone w went = absurd went

  -- and it is a process of the run
  pub walker_is : (v : Walker J) (w : Went J) → IsWalkerOf session places (plain_trace lines) v → WalkerWent session places (plain_trace lines) v w → IsWalkerOf session places (plain_trace lines) w.walker
  walker_is (walker.Living l) w is went = went.walker
  walker_is (walker.Ended e) w is went = subst (λ (w : Went J). IsWalkerOf session places (plain_trace lines) w.walker) (sym went) is
  walker_is (walker.Left l) w is went = subst (λ (w : Went J). IsWalkerOf session places (plain_trace lines) w.walker) (sym went) is
  walker_is walker.Gone w is went = absurd went

  pub walker_waits : (v : Walker J) (w : Went J) → WalkerWent session places (plain_trace lines) v w → w.answer ≡ turn.Waiting → Waits session (plain_trace lines) (member_of w.walker)
  walker_waits (walker.Living l) w went is = went.waits is
  walker_waits (walker.Ended e) w went is = absurd (let z : turn.Ended ≡ turn.Waiting = ap (λ (w : Went J). w.answer) (sym went) ∙ is in cc)
  walker_waits (walker.Left l) w went is = absurd (let z : turn.Failed ≡ turn.Waiting = ap (λ (w : Went J). w.answer) (sym went) ∙ is in cc)
  walker_waits walker.Gone w went is = absurd went
