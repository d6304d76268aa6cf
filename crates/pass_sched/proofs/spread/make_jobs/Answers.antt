use Rattle.std.proofs.Common.{◌≡◌, ◌++◌, ◌∷◌, [], List, false, ◌&&◌, ◌||◌, nat_lt, length, All, refl, sum_by, ap, ◌∙◌, sym, subst, arith, append-nil, append_assoc, IsPermutation}
use Rattle.std.proofs.lemmas.Bool.{le-ltb}
use Rattle.std.proofs.lemmas.List.Elements.{All-nil, All-push, All-same}
use Rattle.std.proofs.lemmas.List.Sorted.{IsPermutation-refl, IsPermutation-trans, IsPermutation-append_right}
use Rattle.pass_sched.specs.declared.job.Job.{Job}
use Rattle.pass_sched.specs.Jobs.{IsFit, tasks_in}
use Rattle.pass_sched.specs.Passes.{Run, IsUnderway, is_failed, room_of}
use Rattle.pass_sched.proofs.Perms.{same, called, carried, behind, through_last, nil_of}
use Rattle.pass_sched.proofs.Plays.{run_of_ended}
use Rattle.pass_sched.proofs.JobLists.{tasks_last, sum_last}
use Rattle.pass_sched.proofs.Underway.{step, reorder, begins}
use Rattle.pass_sched.proofs.spread.make_jobs.Goals as goal

-- the last task is through
is_through : {X : Type 0} (given tasks rest through through_now jobs : List X) (x : X) → tasks ≡ rest ++ x ∷ [] → through_now ≡ through ++ x ∷ []
    → IsPermutation given (tasks ++ (through ++ jobs)) → IsPermutation given (rest ++ (through_now ++ jobs))
is_through given tasks rest through through_now jobs x is now before =
    subst (λ l. IsPermutation given (rest ++ (l ++ jobs))) (sym now)
    (IsPermutation-trans given ((rest ++ x ∷ []) ++ (through ++ jobs)) (rest ++ ((through ++ x ∷ []) ++ jobs)) (subst (λ l. IsPermutation given (l ++ (through ++ jobs))) is before)
    (subst (λ l. IsPermutation l (rest ++ ((through ++ x ∷ []) ++ jobs))) (sym (append_assoc rest (x ∷ []) (through ++ jobs)))
    (IsPermutation-append_right rest (x ∷ (through ++ jobs)) ((through ++ x ∷ []) ++ jobs) (behind through jobs x))))

-- or has become the last job
is_job : {X : Type 0} (given tasks rest through : List X) (jobs jobs_now : List (Job X)) (x : X) (job : Job X) → tasks ≡ rest ++ x ∷ [] → jobs_now ≡ jobs ++ job ∷ [] → job.task ≡ x
    → IsPermutation given (tasks ++ (through ++ tasks_in jobs)) → IsPermutation given (rest ++ (through ++ tasks_in jobs_now))
is_job given tasks rest through jobs jobs_now x job is now made before =
    subst (λ l. IsPermutation given (rest ++ (through ++ l))) ((λ i. tasks_in jobs ++ sym made i ∷ []) ∙ sym (tasks_last jobs_now jobs job now))
    (subst (λ l. IsPermutation given (rest ++ l)) (append_assoc through (tasks_in jobs) (x ∷ []))
    (carried given rest (through ++ tasks_in jobs) x (subst (λ l. IsPermutation given (l ++ (through ++ tasks_in jobs))) is before)))

pub loop-task-init : goal.loop-task-init
loop-task-init g c =
    let tasks = c.args.tasks.items in
    let jobs = c.requires.jobs.0 in
    let through = c.requires.through.0 in
    record {
      slots = omega (arith, c.requires.jobs.1, ap length jobs, c.args.jobs.now.ok.0);
      room = omega (arith, c.requires.through.1, ap (λ l. sum_by (room_of g.T.Task) (tasks_in l)) jobs, ap length through, c.args.through.now.ok.0);
      tasks = subst (λ (y : List _ × List (Job _)). IsPermutation tasks (tasks ++ (y.0 ++ tasks_in y.1))) (λ i. (sym through i, sym jobs i)) (same tasks (tasks ++ []) (sym (append-nil tasks)));
      fit = λ all. subst (All (IsFit g.T.Task)) (sym jobs) (All-nil (IsFit g.T.Task));
      begun = (
        [],
        subst (λ (y : List (Job _) × List _). IsUnderway g.T.Task false tasks [] (tasks ++ tasks_in y.0) y.1 false false) (λ i. (sym jobs i, sym through i))
            (reorder g.T.Task false tasks [] _ _ _ _ _ (same _ _ (sym (append-nil tasks))) (begins g.T.Task false tasks tasks (IsPermutation-refl tasks))),
      );
    }

pub loop-task-preserved-then-left-eq0 : goal.loop-task-preserved-then-left-eq0
loop-task-preserved-then-left-eq0 g c =
    let old = c.loop-task.invariant in
    let items = c.in-Some.ensures.items in
    let task = c.in-Some.task in
    let given = c.args.tasks.items in
    let jobs = tasks_in c.loop-task.jobs.items in
    let none : g.T.Task.left task ≡ 0 = sym c.left.ensures ∙ c.if-left-eq0.true in
    let ended : nat_lt 0 (g.T.Task.left task) ≡ false = le-ltb _ _ (omega arith) in
    let still : nat_lt (g.T.Task.left task) (g.T.Task.left task) ≡ false = le-ltb _ _ (omega arith) in
    let rest = c.pop.new.self.items ++ jobs in
    record {
      slots = omega (arith, old.slots, c.in-Some.ensures.cases);
      room = omega (arith, old.room, sum_last (room_of g.T.Task) _ c.pop.new.self.items task items, c.push_reserved.ensures.len, c.push_reserved.ensures.capacity);
      tasks = is_through given c.loop-task.tasks.items c.pop.new.self.items c.loop-task.through.items _ jobs task items c.push_reserved.ensures.items old.tasks;
      fit = old.fit;
      begun =
          let front = subst (λ l. IsPermutation (l ++ jobs) (task ∷ rest)) (sym items) (called c.pop.new.self.items jobs task) in
          let r : Run _ = record { before = task; after = task; kids = [] } in (
            r ∷ old.begun.0,
            step g.T.Task false given old.begun.0 rest c.loop-task.through.items rest c.push_reserved.new.self.items false false false false r
                (reorder g.T.Task false given old.begun.0 _ _ _ _ _ front old.begun.1)
                (run_of_ended g.T.Task task none)
                (same _ _ (append-nil rest))
                (through_last _ _ _ task (same _ _ (append-nil c.loop-task.through.items)) c.push_reserved.ensures.items)
                (ap (λ b. (b && is_failed (g.T.Task.last task)) || false) (sym ended))
                (ap (λ b. b || false) (sym still)),
          );
    }

pub job_for-job-requires : goal.job_for-job-requires
job_for-job-requires g c = omega (arith, c.left.ensures, c.if-left-eq0.false)

pub loop-task-preserved-then-fits : goal.loop-task-preserved-then-fits
loop-task-preserved-then-fits g c =
    let old = c.loop-task.invariant in
    let items = c.in-Some.ensures.items in
    let task = c.in-Some.task in
    let given = c.args.tasks.items in
    let jobs = c.loop-task.jobs.items in
    let job = c.job_for-job.result.0 in
    let made = c.job_for-job.ensures.task in
    let more = tasks_last _ jobs job c.push_reserved-else-left-eq0.ensures.items ∙ (λ i. tasks_in jobs ++ made i ∷ []) in
    record {
      slots = omega (arith, old.slots, c.in-Some.ensures.cases, c.push_reserved-else-left-eq0.ensures.len, c.push_reserved-else-left-eq0.ensures.capacity);
      room = omega (arith, old.room, sum_last (room_of g.T.Task) _ c.pop.new.self.items task items, sum_last (room_of g.T.Task) _ (tasks_in jobs) task more);
      tasks = is_job given c.loop-task.tasks.items c.pop.new.self.items c.loop-task.through.items jobs _ task job items c.push_reserved-else-left-eq0.ensures.items made old.tasks;
      fit = λ all. All-same (IsFit g.T.Task) _ _ c.push_reserved-else-left-eq0.ensures.items (All-push (IsFit g.T.Task) jobs job (old.fit all) (c.job_for-job.ensures.fit c.if-fits.true));
      begun = (
        old.begun.0,
        reorder g.T.Task false given old.begun.0 _ _ _ _ _
            (subst (λ (y : List _ × List _). IsPermutation (y.0 ++ tasks_in jobs) (c.pop.new.self.items ++ y.1)) (λ i. (sym items i, sym more i)) (carried _ c.pop.new.self.items (tasks_in jobs) task (same _ _ refl)))
            old.begun.1,
      );
    }

pub loop-task-preserved : goal.loop-task-preserved
loop-task-preserved g c =
    let old = c.loop-task.invariant in
    let items = c.in-Some.ensures.items in
    let task = c.in-Some.task in
    let given = c.args.tasks.items in
    let jobs = c.loop-task.jobs.items in
    let job = c.job_for-job.result.0 in
    let made = c.job_for-job.ensures.task in
    let more = tasks_last _ jobs job c.push_reserved-else-left-eq0.ensures.items ∙ (λ i. tasks_in jobs ++ made i ∷ []) in
    record {
      slots = omega (arith, old.slots, c.in-Some.ensures.cases, c.push_reserved-else-left-eq0.ensures.len, c.push_reserved-else-left-eq0.ensures.capacity);
      room = omega (arith, old.room, sum_last (room_of g.T.Task) _ c.pop.new.self.items task items, sum_last (room_of g.T.Task) _ (tasks_in jobs) task more);
      tasks = is_job given c.loop-task.tasks.items c.pop.new.self.items c.loop-task.through.items jobs _ task job items c.push_reserved-else-left-eq0.ensures.items made old.tasks;
      fit = λ all. absurd (cc);
      begun = (
        old.begun.0,
        reorder g.T.Task false given old.begun.0 _ _ _ _ _
            (subst (λ (y : List _ × List _). IsPermutation (y.0 ++ tasks_in jobs) (c.pop.new.self.items ++ y.1)) (λ i. (sym items i, sym more i)) (carried _ c.pop.new.self.items (tasks_in jobs) task (same _ _ refl)))
            old.begun.1,
      );
    }

pub returns-clause-tasks : goal.returns-clause-tasks
returns-clause-tasks g c =
    let none = nil_of c.loop-task.tasks.items (omega (arith, c.in_default.ensures.cases, c.loop-task.tasks.ok.0)) in
    subst (λ l. IsPermutation c.args.tasks.items (l ++ (c.loop-task.through.items ++ tasks_in c.loop-task.jobs.items))) none c.loop-task.invariant.tasks

pub returns-clause-begun : goal.returns-clause-begun
returns-clause-begun g c =
    let so_far = c.loop-task.invariant.begun in
    let none = nil_of c.loop-task.tasks.items (omega (arith, c.in_default.ensures.cases, c.loop-task.tasks.ok.0)) in
    (so_far.0, subst (λ l. IsUnderway g.T.Task false c.args.tasks.items so_far.0 (l ++ tasks_in c.loop-task.jobs.items) c.loop-task.through.items false false) none so_far.1)
