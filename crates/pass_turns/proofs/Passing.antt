-- What a pass makes of the tasks of a run.
use Rattle.std.proofs.Common.{◌≡◌, ◌≢◌, ◌<◌, ◌≤◌, ◌+◌, ℕ, zero, suc, List, [], ◌∷◌, ◌++◌, length, map, refl, ap, sym, ◌∙◌, subst, arith, ◌⊎◌, inl, inr, Bool, true, false, not, ◌&&◌, All, IsPermutation, sum_by}
use Rattle.std.specs.Prelude.{Some, slice_get, Contains, filter, nat_lt, max}
use Rattle.std.specs.List.{flat_map, list_all, list_any}
use Rattle.std.proofs.lemmas.Bool.{cases_lt}
use Rattle.std.proofs.lemmas.List.{append-nil}
use Rattle.std.proofs.lemmas.List.Elements.{All-nil, All-append, All-contains, All-head, All-tail}
use Rattle.std.proofs.lemmas.List.Sorted.{Contains-permutation, IsPermutation-append_left, IsPermutation-filter_both, IsPermutation-sym, sum_by-IsPermutation}
use Rattle.std.proofs.lemmas.List.Sums.{sum_by-append, sum_by-cons}
use Rattle.std.proofs.lemmas.Option.{slice_get_within}
use Rattle.pass_entry.specs.declared.entry.Entry.{Entry}
use Rattle.pass_entry.specs.declared.entry.Act.TheVariants as act
use Rattle.pass_plain.specs.Traces.{Line}
use Rattle.pass_plain.proofs.Lists.{slice_get-front, below_is, true_left, true_right, same_numbers}
use Rattle.pass_trace.specs.TraceLines.{plain_trace}
use Rattle.pass_sched.specs.declared.task.Task.{Ghosts}
use Rattle.pass_sched.specs.declared.task.Turn.{Turn}
use Rattle.pass_sched.specs.Passes.{Run, Moves, start, more, IsRun, IsPass, room_of, takes_part, joining, staying, end_of, end_by, has_ended, has_failed, has_moved}
use Rattle.pass_sched.specs.declared.pass.PassEnd.{PassEnd}
use Rattle.pass_sched.specs.declared.pass.PassEnd.TheVariants as pass_end
use Rattle.pass_trace.specs.declared.trace.TraceLine.{TraceLine}
use Rattle.pass_plain.specs.Processes.{Held}
use Rattle.pass_sched.proofs.Underway.{fits}
use Rattle.pass_turns.specs.Tasks.{task_room}
use Rattle.pass_turns.specs.Turners.{TurnerState, IsNewTask, HasTask, IsBirthAmong, Turned, AreTasks}
use Rattle.pass_turns.proofs.Aside.{pass_aside, with_idle}
use Rattle.pass_walk.proofs.Among.{Among, among, contains, all_of, in_left, in_right, in_both, of_map, to_map, of_filter, to_filter, of_flat, to_flat}

-- no turn, and two in a row

pub turned_not : (t : TurnerState) → Turned t [] t
turned_not t = record {
  lines = refl;
  process = refl;
  who = refl;
  begins = ([], append-nil t.seen);
  new_tasks = All-nil (IsNewTask t.lines);
  births = λ n e out descriptors at later by born. absurd (let z = slice_get_within t.seen n e at in omega (arith, z, later));
}

grown : (trace : List Line) (tasks others : List TurnerState) (process : ℕ) (e : Entry) → ((x : TurnerState) → Among x tasks → Among x others) → IsBirthAmong trace tasks process e → IsBirthAmong trace others process e
grown trace tasks others process e all b = record {
  number = b.number;
  child = b.child;
  counted = b.counted;
  forks = b.forks;
  there = record { task = b.there.task; among = contains others b.there.task (all b.there.task (among tasks b.there.task b.there.among)); number = b.there.number; is = b.there.is };
}

pub turned_twice : (a b c : TurnerState) (first second : List TurnerState) → Turned a first b → Turned b second c → Turned a (first ++ second) c
turned_twice a b c first second f s = record {
  lines = s.lines ∙ f.lines;
  process = s.process ∙ f.process;
  who = s.who ∙ f.who;
  begins = (f.begins.0 ++ s.begins.0, sym (Rattle.std.proofs.Common.append_assoc a.seen f.begins.0 s.begins.0) ∙ ap (λ h. h ++ s.begins.0) f.begins.1 ∙ s.begins.1);
  new_tasks = All-append (IsNewTask a.lines) first second f.new_tasks
      (subst (λ (ls : List TraceLine). All (IsNewTask ls) second) f.lines s.new_tasks);
  births = λ n e out descriptors at later by born. elim (cases_lt n (length b.seen)) [
    | inr le ↦
        let birth = s.births n e out descriptors at le (by ∙ sym f.who) born in
        let same = subst (λ (x : List TraceLine × ℕ). IsBirthAmong (plain_trace x.0) second x.1 e) (λ i. (f.lines i, f.process i)) birth in
        grown (plain_trace a.lines) second (first ++ second) a.process e (λ x h. in_right first second x h) same
    | inl less ↦
        grown (plain_trace a.lines) first (first ++ second) a.process e (λ x h. in_left first second x h)
        (f.births n e out descriptors (slice_get-front b.seen s.begins.0 n e less (ap (λ h. slice_get h n) s.begins.1 ∙ at)) later by born)
  ];
}

module _ (t : Ghosts TurnerState) (gives : (before : TurnerState) (kids : List TurnerState) (answer : Turn) (after : TurnerState) → t.turn_gives before kids answer after → Turned before kids after) where
  moves_turned : {before after : TurnerState} {kids : List TurnerState} → Moves t before kids after → Turned before kids after
  moves_turned {before} start = turned_not before
  moves_turned (more {before} {middle} {after} {kids} {born} {both} m takes is) =
      subst (λ ks. Turned before ks after) (sym is) (turned_twice before middle after kids born (moves_turned m) (gives middle born _ after takes.1))

  run_turned : (r : Run TurnerState) → IsRun t r → Turned r.before r.kids r.after
  run_turned r is = at (t.left r.before) refl
    where
      at : (n : ℕ) → t.left r.before ≡ n → Turned r.before r.kids r.after
      at zero none =
          let (same, empty) = is.ended none in
          subst (λ (x : List TurnerState × TurnerState). Turned r.before x.0 x.1) (λ i. (sym empty i, sym same i)) (turned_not r.before)
      at (suc n) some =
          let (middle, answer, moves, takes, rests) = is.living (omega (arith, some)) in
          subst (λ ks. Turned r.before ks r.after) (append-nil r.kids) (turned_twice r.before middle r.after r.kids [] (moves_turned moves) (gives middle [] answer r.after takes.1))

  module _ (lines : List TraceLine) (first : ℕ) (alone : Bool) (given : List TurnerState) (runs : List (Run TurnerState)) (answer : List TurnerState)
      (pass : IsPass t alone given runs answer) (tasks : AreTasks lines first given) where
    abbrev joined : List TurnerState
    joined = flat_map (joining t alone) runs

    abbrev all : List TurnerState
    all = given ++ joined

    went : (r : Run TurnerState) → Among r runs → Turned r.before r.kids r.after
    went r there = run_turned r (All-contains (IsRun t) runs r pass.each_runs (contains runs r there))

    -- whoever takes part has a run
    has_run : (x : TurnerState) → Among x all → (r : Run TurnerState) × Among r runs × (r.before ≡ x)
    has_run x there = of_map (λ r. r.before) runs x (among (map (λ r. r.before) runs) x (Contains-permutation all (map (λ r. r.before) runs) x pass.each_once (contains all x there)))

    runs_of : (r : Run TurnerState) → Among r runs → Among r.before all
    runs_of r there = among all r.before (Contains-permutation (map (λ r. r.before) runs) all r.before (IsPermutation-sym all (map (λ r. r.before) runs) pass.each_once)
        (contains (map (λ r. r.before) runs) r.before (to_map (λ (r : Run TurnerState). r.before) runs r there)))

    abbrev kept : List TurnerState
    kept = map (λ (r : Run TurnerState). r.after) runs ++ flat_map (staying t alone) runs

    in_answer : (x : TurnerState) → Among x kept → Contains answer x
    in_answer x there = Contains-permutation kept answer x pass.none_lost (contains kept x there)

    -- and is there afterwards
    still_there : (x : TurnerState) → Among x all → HasTask answer x.process x.who
    still_there x there =
        let (r, is_run, same) = has_run x there in
        let w = went r is_run in
        record {
          task = r.after;
          among = in_answer r.after (in_left (map (λ (r : Run TurnerState). r.after) runs) (flat_map (staying t alone) runs) r.after (to_map (λ (r : Run TurnerState). r.after) runs r is_run));
          number = w.process ∙ ap (λ (x : TurnerState). x.process) same;
          is = w.who ∙ ap (λ (x : TurnerState). x.who) same;
        }

    kid_there : (r : Run TurnerState) → Among r runs → (kid : TurnerState) → Among kid r.kids → HasTask answer kid.process kid.who
    kid_there r is_run kid there = at (takes_part t alone r kid) refl
      where
        at : (b : Bool) → takes_part t alone r kid ≡ b → HasTask answer kid.process kid.who
        at true joins = still_there kid (in_right given joined kid (to_flat (joining t alone) runs r kid is_run (to_filter (λ kid. takes_part t alone r kid) r.kids kid there joins)))
        at false stays = record {
          task = kid;
          among = in_answer kid (in_right (map (λ (r : Run TurnerState). r.after) runs) (flat_map (staying t alone) runs) kid
              (to_flat (staying t alone) runs r kid is_run (to_filter (λ kid. not (takes_part t alone r kid)) r.kids kid there (ap not stays))));
          number = refl;
          is = refl;
        }

    abbrev IsHome : TurnerState → Type 0
    IsHome x = x.lines ≡ lines

    -- a child that joins stands above its parent in the order: so all that take part are of the run
    home_below : (n : ℕ) (x : TurnerState) → t.order x < n → Among x all → IsHome x
    home_below zero x less there = absurd (omega (arith, less))
    home_below (suc n) x less there = elim (in_both given joined x there) [
      | inl g ↦ All-contains IsHome given x tasks.each (contains given x g)
      | inr j ↦
          let (r, is_run, its) = of_flat (joining t alone) runs x j in
          let (kid, part) = of_filter (λ kid. takes_part t alone r kid) r.kids x its in
          let above = below_is (t.order r.before) (t.order x) (true_right alone (nat_lt (t.order r.before) (t.order x)) part) in
          let parent = home_below n r.before (omega (arith, above, less)) (runs_of r is_run) in
          let new = All-contains (IsNewTask r.before.lines) r.kids x (went r is_run).new_tasks (contains r.kids x kid) in
          new.same ∙ parent
    ]

    home : (x : TurnerState) → Among x all → IsHome x
    home x there = home_below (suc (t.order x)) x (omega arith) there

    -- whoever is there afterwards had a run, or was borne
    came : (x : TurnerState) → Contains answer x → ((r : Run TurnerState) × Among r runs × (r.after ≡ x)) ⊎ ((r : Run TurnerState) × Among r runs × Among x r.kids)
    came x there = elim (in_both (map (λ (r : Run TurnerState). r.after) runs) (flat_map (staying t alone) runs) x
        (among kept x (Contains-permutation answer kept x (IsPermutation-sym kept answer pass.none_lost) there))) [
          | inl l ↦ inl (of_map (λ (r : Run TurnerState). r.after) runs x l)
          | inr s ↦ let (r, is_run, its) = of_flat (staying t alone) runs x s in inr (r, is_run, (of_filter (λ kid. not (takes_part t alone r kid)) r.kids x its).0)
        ]

    home_after : (x : TurnerState) → Contains answer x → IsHome x
    home_after x there = elim (came x there) [
      | inl l ↦
          let (r, is_run, same) = l in
          let w = went r is_run in
          let h = home r.before (runs_of r is_run) in
          subst IsHome same (w.lines ∙ h)
      | inr k ↦
          let (r, is_run, kid) = k in
          let h = home r.before (runs_of r is_run) in
          let new = All-contains (IsNewTask r.before.lines) r.kids x (went r is_run).new_tasks (contains r.kids x kid) in
          new.same ∙ h
    ]

    moved : (tasks now : List TurnerState) (process : ℕ) (e : Entry) → ((q w : ℕ) → HasTask tasks q w → HasTask now q w) → IsBirthAmong (plain_trace lines) tasks process e → IsBirthAmong (plain_trace lines) now process e
    moved tasks now process e there b = record { number = b.number; child = b.child; counted = b.counted; forks = b.forks; there = there b.child e.what b.there }

    given_there : (q w : ℕ) → HasTask given q w → HasTask answer q w
    given_there q w has =
        subst (λ (x : ℕ × ℕ). HasTask answer x.0 x.1) (λ i. (has.number i, has.is i)) (still_there has.task (in_left given joined has.task (among given has.task has.among)))

    kids_there : (r : Run TurnerState) → Among r runs → (q w : ℕ) → HasTask r.kids q w → HasTask answer q w
    kids_there r is_run q w has =
        subst (λ (x : ℕ × ℕ). HasTask answer x.0 x.1) (λ i. (has.number i, has.is i)) (kid_there r is_run has.task (among r.kids has.task has.among))

    -- what had been borne before
    bore : (x : TurnerState) → Among x all → (n : ℕ) (e : Entry) (out : ℕ) (descriptors : Held) → slice_get x.seen n ≡ Some e → e.who ≡ x.who → e.act ≡ act.Born out descriptors
        → IsBirthAmong (plain_trace lines) answer x.process e
    bore x there n e out descriptors at by born = elim (in_both given joined x there) [
      | inl g ↦ moved given answer x.process e given_there (tasks.bears x (contains given x g) n e out descriptors at by born)
      | inr j ↦
          let (r, is_run, its) = of_flat (joining t alone) runs x j in
          let (kid, part) = of_filter (λ kid. takes_part t alone r kid) r.kids x its in
          absurd ((All-contains (IsNewTask r.before.lines) r.kids x (went r is_run).new_tasks (contains r.kids x kid)).silent n e at by)
    ]

    pub still_tasks : AreTasks lines first answer
    still_tasks = record {
      first_is = given_there 1 first tasks.first_is;
      each = all_of IsHome answer home_after;
      bears = λ x there n e out descriptors at by born. elim (came x there) [
        | inl l ↦
            let (r, is_run, same) = l in
            let w = went r is_run in
            let at_after : slice_get r.after.seen n ≡ Some e = ap (λ (x : TurnerState). slice_get x.seen n) same ∙ at in
            let by_before : e.who ≡ r.before.who = by ∙ ap (λ (x : TurnerState). x.who) (sym same) ∙ w.who in
            let process : r.before.process ≡ x.process = sym w.process ∙ ap (λ (x : TurnerState). x.process) same in
            subst (λ p. IsBirthAmong (plain_trace lines) answer p e) process (elim (cases_lt n (length r.before.seen)) [
              | inr later ↦
                  moved r.kids answer r.before.process e (kids_there r is_run)
                  (subst (λ ls. IsBirthAmong (plain_trace ls) r.kids r.before.process e) (home r.before (runs_of r is_run)) (w.births n e out descriptors at_after later by_before born))
              | inl early ↦
                  bore r.before (runs_of r is_run) n e out descriptors (slice_get-front r.before.seen w.begins.0 n e early (ap (λ h. slice_get h n) w.begins.1 ∙ at_after)) by_before born
            ])
        | inr k ↦
            let (r, is_run, kid) = k in
            absurd ((All-contains (IsNewTask r.before.lines) r.kids x (went r is_run).new_tasks (contains r.kids x kid)).silent n e at by)
      ];
    }

-- in another order they are the same tasks
-- in another order they are the same tasks
pub perm_tasks : (lines : List TraceLine) (first : ℕ) (given answer : List TurnerState) → IsPermutation given answer → AreTasks lines first given → AreTasks lines first answer
perm_tasks lines first given answer perm tasks =
    let there : (q w : ℕ) → HasTask given q w → HasTask answer q w =
    λ q w has. record { task = has.task; among = Contains-permutation given answer has.task perm has.among; number = has.number; is = has.is } in
    let back : (x : TurnerState) → Contains answer x → Contains given x = λ x h. Contains-permutation answer given x (IsPermutation-sym given answer perm) h in
    record {
      first_is = there 1 first tasks.first_is;
      each = all_of (λ x. x.lines ≡ lines) answer (λ x h. All-contains (λ x. x.lines ≡ lines) given x tasks.each (back x h));
      bears = λ x h n e out descriptors at by born.
          let b = tasks.bears x (back x h) n e out descriptors at by born in
          record { number = b.number; child = b.child; counted = b.counted; forks = b.forks; there = there b.child e.what b.there };
    }

-- after a pass they are still the tasks of the run, with those that had ended and stand aside
pub after_pass : (t : Ghosts TurnerState) → ((before : TurnerState) (kids : List TurnerState) (answer : Turn) (after : TurnerState) → t.turn_gives before kids answer after → Turned before kids after)
    → (lines : List TraceLine) (first : ℕ) (alone : Bool) (given answer : List TurnerState) (end : PassEnd) → (end ≡ pass_end.NoMemory → IsPermutation given answer)
    → (end ≢ pass_end.NoMemory → (runs : List (Run TurnerState)) × IsPass t alone given runs answer × (end ≡ end_of t runs answer))
    → (aside : List TurnerState) → All (λ x. t.left x ≡ 0) aside → AreTasks lines first (given ++ aside) → AreTasks lines first (answer ++ aside)
after_pass t gives lines first alone given answer end same passed aside none tasks = at end same passed
  where
    no_memory : PassEnd → Bool
    no_memory pass_end.NoMemory = true
    no_memory _ = false

    from : ((runs : List (Run TurnerState)) × IsPass t alone given runs answer) → AreTasks lines first (answer ++ aside)
    from (runs, pass) = still_tasks t gives lines first alone (given ++ aside) (with_idle runs aside) (answer ++ aside) (pass_aside t alone given runs answer aside none pass) tasks

    at : (end : PassEnd) → (end ≡ pass_end.NoMemory → IsPermutation given answer) → (end ≢ pass_end.NoMemory → (runs : List (Run TurnerState)) × IsPass t alone given runs answer × (end ≡ end_of t runs answer)) → AreTasks lines first (answer ++ aside)
    at pass_end.NoMemory same passed = perm_tasks lines first (given ++ aside) (answer ++ aside) (IsPermutation-append_left aside given answer (same refl)) tasks
    at pass_end.AllEnded same passed = let p = passed (λ h. let z : false ≡ true = ap no_memory h in cc) in from (p.0, p.1)
    at pass_end.AllWaiting same passed = let p = passed (λ h. let z : false ≡ true = ap no_memory h in cc) in from (p.0, p.1)
    at pass_end.GoOn same passed = let p = passed (λ h. let z : false ≡ true = ap no_memory h in cc) in from (p.0, p.1)
    at pass_end.OneFailed same passed = let p = passed (λ h. let z : false ≡ true = ap no_memory h in cc) in from (p.0, p.1)

all_from : {X : Type 0} (p : X → Bool) (xs : List X) → list_all p xs ≡ true → (x : X) → Among x xs → p x ≡ true
all_from p [] h x there = absurd there
all_from p (y ∷ xs) h x (inl same) = ap p (sym same) ∙ true_left (p y) (list_all p xs) h
all_from p (y ∷ xs) h x (inr rest) = all_from p xs (true_right (p y) (list_all p xs) h) x rest

ended_by : (failed all moved : Bool) → end_by failed all moved ≡ pass_end.AllEnded → all ≡ true
ended_by true all moved h = absurd (let z : pass_end.OneFailed ≡ pass_end.AllEnded = h in cc)
ended_by false true moved h = refl
ended_by false false true h = absurd (let z : pass_end.GoOn ≡ pass_end.AllEnded = h in cc)
ended_by false false false h = absurd (let z : pass_end.AllWaiting ≡ pass_end.AllEnded = h in cc)

-- where a pass says that all have ended, no turn is left to any
pub none_left : (t : Ghosts TurnerState) (alone : Bool) (given answer : List TurnerState) (end : PassEnd)
    → (end ≢ pass_end.NoMemory → (runs : List (Run TurnerState)) × IsPass t alone given runs answer × (end ≡ end_of t runs answer)) → end ≡ pass_end.AllEnded → All (λ x. t.left x ≡ 0) answer
none_left t alone given answer end passed is =
    let p = passed (λ h. let z : pass_end.AllEnded ≡ pass_end.NoMemory = sym is ∙ h in cc) in
    let all : list_all (has_ended t) answer ≡ true = ended_by (list_any (has_failed t) p.0) (list_all (has_ended t) answer) (list_any (has_moved t) p.0) (sym p.2 ∙ is) in
    all_of (λ x. t.left x ≡ 0) answer (λ x h. same_numbers (t.left x) 0 (all_from (has_ended t) answer all x (among answer x h)))

-- How many tasks there can be

-- what a test parts adds up
parted : {X : Type 0} (f : X → ℕ) (p : X → Bool) (xs : List X) → sum_by f (filter p xs) + sum_by f (filter (λ x. not (p x)) xs) ≡ sum_by f xs
parted f p xs = sym (sum_by-append f (filter p xs) (filter (λ x. not (p x)) xs)) ∙ sum_by-IsPermutation f xs (filter p xs ++ filter (λ x. not (p x)) xs) (IsPermutation-filter_both p (λ x. not (p x)) (λ x. refl) xs)

module _ (t : Ghosts TurnerState) (same_left : (x : TurnerState) → t.left x ≡ x.left) where
  room_is : (xs : List TurnerState) → sum_by (room_of t) xs ≡ sum_by task_room xs
  room_is [] = refl
  room_is (x ∷ xs) = omega (arith, sum_by-cons (room_of t) x xs, sum_by-cons task_room x xs, room_is xs, ap (λ n. max 1 n) (same_left x))

  live_rooms : (kids : List TurnerState) → All (λ kid. 0 < t.left kid) kids → sum_by (room_of t) kids ≡ sum_by t.left kids
  live_rooms [] live = refl
  live_rooms (k ∷ ks) live =
      let head = All-head (λ kid. 0 < t.left kid) k ks live in
      omega (arith, sum_by-cons (room_of t) k ks, sum_by-cons t.left k ks, head, live_rooms ks (All-tail (λ kid. 0 < t.left kid) k ks live))

  -- a task and its children take no more room than it had
  run_room : (r : Run TurnerState) → IsRun t r → room_of t r.after + sum_by (room_of t) r.kids ≤ room_of t r.before
  run_room r is = at (t.left r.before) refl
    where
      at : (n : ℕ) → t.left r.before ≡ n → room_of t r.after + sum_by (room_of t) r.kids ≤ room_of t r.before
      at zero none = let e = is.ended none in
          omega (arith, ap (λ (x : TurnerState). room_of t x) e.0, ap (λ (ks : List TurnerState). sum_by (room_of t) ks) e.1)
      at (suc n) some = (let a = live_rooms r.kids is.kids_live in let b = fits t r.before r.kids r.after (omega (arith, some)) (is.living (omega (arith, some))) in let c = is.falls in omega (arith, a, b, c, some))

  module _ (alone : Bool) where
    -- over all runs: what is there afterwards, and joined, takes no more than what took part
    runs_room : (runs : List (Run TurnerState)) → All (IsRun t) runs
        → sum_by (room_of t) (map (λ r. r.after) runs) + (sum_by (room_of t) (flat_map (joining t alone) runs) + sum_by (room_of t) (flat_map (staying t alone) runs)) ≤ sum_by (room_of t) (map (λ r. r.before) runs)
    runs_room [] each = omega arith
    runs_room (r ∷ rs) each =
        let a = run_room r (All-head (IsRun t) r rs each) in
        let b = runs_room rs (All-tail (IsRun t) r rs each) in
        let p = parted (room_of t) (takes_part t alone r) r.kids in
        let j = sum_by-append (room_of t) (joining t alone r) (flat_map (joining t alone) rs) in
        let s = sum_by-append (room_of t) (staying t alone r) (flat_map (staying t alone) rs) in
        let x = sum_by-cons (room_of t) r.after (map (λ r. r.after) rs) in
        let y = sum_by-cons (room_of t) r.before (map (λ r. r.before) rs) in
        omega (arith, a, b, p, j, s, x, y)

    pass_room : (given answer : List TurnerState) (runs : List (Run TurnerState)) → IsPass t alone given runs answer → sum_by (room_of t) answer ≤ sum_by (room_of t) given
    pass_room given answer runs pass =
        let a = runs_room runs pass.each_runs in
        let b = sum_by-IsPermutation (room_of t) (given ++ flat_map (joining t alone) runs) (map (λ r. r.before) runs) pass.each_once in
        let c = sum_by-append (room_of t) given (flat_map (joining t alone) runs) in
        let d = sum_by-IsPermutation (room_of t) (map (λ r. r.after) runs ++ flat_map (staying t alone) runs) answer pass.none_lost in
        let e = sum_by-append (room_of t) (map (λ (r : Run TurnerState). r.after) runs) (flat_map (staying t alone) runs) in
        omega (arith, a, b, c, d, e)

  -- a pass takes no more room
  pub room_after : (alone : Bool) (given answer : List TurnerState) (end : PassEnd) → (end ≡ pass_end.NoMemory → IsPermutation given answer)
      → (end ≢ pass_end.NoMemory → (runs : List (Run TurnerState)) × IsPass t alone given runs answer × (end ≡ end_of t runs answer)) → sum_by task_room answer ≤ sum_by task_room given
  room_after alone given answer end same passed = at end same passed
    where
      no_memory : PassEnd → Bool
      no_memory pass_end.NoMemory = true
      no_memory _ = false

      from : ((runs : List (Run TurnerState)) × IsPass t alone given runs answer) → sum_by task_room answer ≤ sum_by task_room given
      from (runs, pass) = (let a = pass_room alone given answer runs pass in let b = room_is given in let c = room_is answer in omega (arith, a, b, c))

      at : (end : PassEnd) → (end ≡ pass_end.NoMemory → IsPermutation given answer) → (end ≢ pass_end.NoMemory → (runs : List (Run TurnerState)) × IsPass t alone given runs answer × (end ≡ end_of t runs answer)) → sum_by task_room answer ≤ sum_by task_room given
      at pass_end.NoMemory same passed = (let a = sum_by-IsPermutation task_room given answer (same refl) in omega (arith, a))
      at pass_end.AllEnded same passed = let p = passed (λ h. let z : false ≡ true = ap no_memory h in cc) in from (p.0, p.1)
      at pass_end.AllWaiting same passed = let p = passed (λ h. let z : false ≡ true = ap no_memory h in cc) in from (p.0, p.1)
      at pass_end.GoOn same passed = let p = passed (λ h. let z : false ≡ true = ap no_memory h in cc) in from (p.0, p.1)
      at pass_end.OneFailed same passed = let p = passed (λ h. let z : false ≡ true = ap no_memory h in cc) in from (p.0, p.1)

-- no list is longer than its room
pub short : (xs : List TurnerState) → length xs ≤ sum_by task_room xs
short [] = omega arith
short (x ∷ xs) = omega (arith, sum_by-cons task_room x xs, short xs)
