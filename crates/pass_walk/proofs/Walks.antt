-- What a call makes of a living process.
use Rattle.std.proofs.Common.{◌≡◌, ◌≢◌, ◌<◌, ◌≤◌, ◌+◌, ℕ, List, [], ◌∷◌, length, refl, ap, sym, ◌∙◌, subst, arith, inl, inr, true, false}
use Rattle.std.specs.Prelude.{Option, Some, None, slice_get}
use Rattle.std.proofs.lemmas.Bool.{cases_lt}
use mathlib.Core.List.{IsPrefix}
use Rattle.pass_entry.specs.declared.entry.Entry.{Entry}
use Rattle.pass_plain.specs.declared.request.Request.{Request}
use Rattle.pass_plain.specs.declared.request.Request.TheVariants as requests
use Rattle.pass_plain.specs.Sessions.{Session}
use Rattle.pass_plain.specs.Legal.{IsLegal}
use Rattle.pass_plain.specs.Processes.{has_begun, has_ended}
use Rattle.pass_plain.specs.Traces.{Line, LineCall, given, write_last, fork_as, wait_for, await_for, request_of, calls_of}
use Rattle.pass_plain.specs.Runs.{next_number, pnode_of_process}
use Rattle.pass_plain.proofs.Lists.{some_is}
use Rattle.pass_hold.specs.Goings.{Goes, HasNotAnswered}
use Rattle.pass_proc.specs.Ends.{trail_of_proc}
use Rattle.pass_proc.specs.Procs.{ProcView}
use Rattle.pass_progress.specs.Progress.{BornAs, IsDone, IsNotDone, IsNotReady, MayGoOn}
use Rattle.pass_replay.specs.Lines.{AreLinesBehind, IsLineAt, IsLineCall, is_given}
use Rattle.pass_replay.specs.Members.{KnowsChildren, MakesSteps, Waits, request_by}
use Rattle.pass_replay.proofs.Births.{call_at_line}
use Rattle.pass_replay.proofs.Staying.{pnode_stays}
use Rattle.pass_sched.specs.declared.task.Turn.TheVariants as turn
use Rattle.pass_walk.specs.declared.children.Children.{Children}
use Rattle.pass_walk.specs.declared.ends.Cause.{Cause}
use Rattle.pass_walk.specs.declared.walker.Living.{Living}
use Rattle.pass_walk.specs.declared.walker.Walker.{Walker}
use Rattle.pass_walk.specs.declared.walker.Walker.TheVariants as walker
use Rattle.pass_walk.specs.Causes.{IsCauseOf}
use Rattle.pass_walk.specs.Lefts.{left_at}
use Rattle.pass_walk.specs.Local.{IsLocal}
use Rattle.pass_walk.specs.Walkers.{HasWent, IsLivingOf, pnode_among}
use Rattle.pass_walk.proofs.LeftLemmas.{left_at_some}
use Rattle.pass_walk.proofs.Locals as locals

-- a fork has a request of its own
pub no_fork : (pnode : ℕ → ℕ) (last : List ℕ) (call : LineCall) → IsLineCall call → ((child : ℕ) → call ≢ fork_as child) → request_of pnode last call ≡ requests.Fork → ⊥
no_fork pnode last (given r) line other is = let z : false ≡ true = ap is_given (sym is) ∙ line.0 in cc
no_fork pnode last (write_last fd) line other is = let z : requests.Write fd last ≡ requests.Fork = is in cc
no_fork pnode last (fork_as child) line other is = other child refl
no_fork pnode last (wait_for q) line other is = let z : requests.WaitChild (pnode q) ≡ requests.Fork = is in cc
no_fork pnode last (await_for q) line other is = let z : requests.Await (pnode q) ≡ requests.Fork = is in cc

pub some_seen : (seen : List Entry) (who : ℕ) → has_begun seen who ≡ true → 0 < length seen
some_seen [] who has = absurd (cc)
some_seen (e ∷ es) who has = omega arith

-- each entry by the process since is of the call that was its next one
abbrev pub Counts : ℕ → List Entry → List Entry → Type 0
Counts who old new = (n : ℕ) (e : Entry) → slice_get new n ≡ Some e → length old ≤ n → e.who ≡ who → e.number ≡ next_number old who

pub goes_counts : (session : Session) (who : ℕ) (r : Request) (old new : List Entry) → Goes session who r old new → Counts who old new
goes_counts session who r old new goes n e at later by = (goes.steps n e at by later).counted

-- the next line of a living process
abbrev pub line_in : {J : Type 0} → Walker J → Option ℕ
line_in (walker.Living l) = l.line
line_in _ = None

pub no_kid : {J : Type 0} (kid : Living J) → ◌≡◌ {A = Option (Living J)} None (Some kid) → ⊥
no_kid kid h = cc

module _ {J : Type 0} (session : Session) (places : ℕ) (trace : List Line) (l : Living J) where
  -- a process that is left
  pub left_went : (new : ProcView) (left : ℕ) (cause : Cause) → new.who ≡ l.proc.who → IsPrefix l.proc.seen new.seen → MakesSteps trace l.process new.who new.seen → has_ended new.seen new.who ≡ false
      → IsLegal session new.seen → Counts l.proc.who l.proc.seen new.seen → BornAs l.proc.who l.proc.seen new.seen (λ what. ⊥) → left ≡ left_at trace l.process l.line → IsCauseOf session places trace (record { process = l.process; who = new.who; seen = new.seen; ended = false }) cause
      → HasWent session places trace l (record { walker = walker.Left (record { process = l.process; left = left; trail = trail_of_proc new; cause = cause }); answer = turn.Failed; kid = None })
  left_went new left cause who begins makes living legal counts births is caused = record {
    walker = record { makes = makes; living = living; some = (let z = left_at_some trace l.process l.line in omega (arith, z, is)); cause = caused };
    process = refl;
    who = who;
    begins = begins;
    kid = tt;
    births = λ n e out descriptors at later by born. absurd (births n e out descriptors at later by born);
    moved = λ h. absurd (let z : turn.Failed ≡ turn.Moved = h in cc);
    stayed = λ h. (is, refl);
    goes_on = λ h. let z : turn.Failed ≡ turn.Ended = h in cc;
    waits = λ h. absurd (let z : turn.Failed ≡ turn.Waiting = h in cc);
    fails = λ h. (record { process = l.process; left = left; trail = trail_of_proc new; cause = cause }, refl);
    legal = legal;
    counts = counts;
    over = λ h. absurd (let z : turn.Failed ≡ turn.Moved = h in cc);
    next = λ m is h. absurd (let z : turn.Failed ≡ turn.Moved = h in cc);
    line = λ m is h. absurd (let z : turn.Failed ≡ turn.Waiting = h in cc);
    shares = λ kid h. absurd (no_kid kid h);
    forks = λ kid h. absurd (no_kid kid h);
  }

module _ {J : Type 0} (session : Session) (trace : List Line) (behind : AreLinesBehind [] trace) (l : Living J) (is : IsLivingOf session trace l) (call : LineCall)
    (stands : slice_get (calls_of trace l.process) is.done ≡ Some call) where
  abbrev pub request : Request
  request = request_by (pnode_among l.children) l.proc.seen l.proc.who (is.done + 1) call

  pub may_go_on : MayGoOn l.proc request
  may_go_on = is.goes call stands

  module _ (new : ProcView) (who : new.who ≡ l.proc.who) (goes : Goes session l.proc.who request l.proc.seen new.seen) where
    -- its steps are of its lines
    pub makes_now : MakesSteps trace l.process new.who new.seen
    makes_now = subst (λ w. MakesSteps trace l.process w new.seen) (sym who) (locals.makes_new session trace behind l.process l.proc.who l.proc.seen new.seen is.done (pnode_among l.children) call is.local stands goes)

    -- it is the same process of the trace
    pub right_now : pnode_of_process session trace new.seen l.process ≡ Some new.who
    right_now =
        subst (λ h. pnode_of_process session trace h l.process ≡ Some l.proc.who) goes.begins.1
        (pnode_stays session trace l.proc.seen goes.begins.0 l.process l.proc.who behind (subst (λ h. IsLegal session h) (sym goes.begins.1) goes.legal)
        (some_seen l.proc.seen l.proc.who is.local.makes.begun) is.right)
        ∙ ap (λ w. Some w) (sym who)

    -- the number of what was made since
    pub counted : (n : ℕ) (e : Entry) → slice_get new.seen n ≡ Some e → length l.proc.seen ≤ n → e.who ≡ l.proc.who → e.number ≡ is.done + 1
    counted n e at later by = (goes.steps n e at by later).counted ∙ is.local.next

    -- the children that it knew
    pub known_before : KnowsChildren trace new.seen l.process l.proc.who is.done (pnode_among l.children)
    known_before = locals.knows_still session trace behind l.process l.proc.who l.proc.seen new.seen is.done (pnode_among l.children) call is.local stands goes (pnode_among l.children) is.local.knows

    -- and no more, where the call is no fork
    pub known_after : ((child : ℕ) → call ≢ fork_as child) → KnowsChildren trace new.seen l.process l.proc.who (is.done + 1) (pnode_among l.children)
    known_after other k child m early at forks = elim (cases_lt k is.done) [
      | inl less ↦ known_before k child m less at forks
      | inr le ↦
          let same : is.done ≡ k = omega (arith, le, early) in
          absurd (other child (some_is call (fork_as child) (sym stands ∙ ap (λ k. slice_get (calls_of trace l.process) k) same ∙ call_at_line trace l.process k m at ∙ ap (λ c. Some c) forks)))
    ]

  -- the call is over
  pub went_on : (new : ProcView) (d : IsDone session l.proc new request) (children : Children) → KnowsChildren trace new.seen l.process l.proc.who (is.done + 1) (pnode_among children)
      → is.done + 1 < length (calls_of trace l.process) → (line : Option ℕ) → IsLineAt trace l.process (is.done + 1) line
      → IsLivingOf session trace (record l { line = line; children = children; proc = new })
  went_on new d children knows within line at = record {
    done = is.done + 1;
    legal = d.on.goes.legal;
    local = subst (λ w. IsLocal trace l.process w new.seen (is.done + 1) (pnode_among children)) (sym d.on.who)
        (locals.answered session trace behind l.process l.proc.who l.proc.seen new.seen is.done (pnode_among l.children) call is.local stands d.on.goes d.answered (pnode_among children) knows within);
    goes = λ call at. inl d.rest;
    line = at;
    right = right_now new d.on.who d.on.goes;
  }

  -- it is not over, and the process may go on with it
  pub stayed : (new : ProcView) → new.who ≡ l.proc.who → Goes session l.proc.who request l.proc.seen new.seen → HasNotAnswered l.proc.who request l.proc.seen new.seen → MayGoOn new request
      → IsLivingOf session trace (record l { proc = new })
  stayed new who goes has may = record {
    done = is.done;
    legal = goes.legal;
    local = subst (λ w. IsLocal trace l.process w new.seen is.done (pnode_among l.children)) (sym who)
        (locals.unanswered session trace behind l.process l.proc.who l.proc.seen new.seen is.done (pnode_among l.children) call is.local stands goes has);
    goes = λ other there.
        subst (λ r. MayGoOn new r)
        (locals.request_stays session trace behind l.process l.proc.who l.proc.seen new.seen is.done (pnode_among l.children) call is.local stands goes has other there
        ∙ ap (λ w. request_by (pnode_among l.children) new.seen w (is.done + 1) other) (sym who)) may;
    line = is.line;
    right = right_now new who goes;
  }

  pub waits : (new : ProcView) (d : IsNotDone session l.proc new request) → IsNotReady session l.proc.who request new.seen
      → Waits session trace (record { process = l.process; who = new.who; seen = new.seen; ended = false })
  waits new d unready =
      subst (λ w. Waits session trace (record { process = l.process; who = w; seen = new.seen; ended = false })) (sym d.on.who)
      (locals.waits_now session trace behind l.process l.proc.who l.proc.seen new.seen is.done (pnode_among l.children) call is.local stands d.on.goes d.unanswered unready)
