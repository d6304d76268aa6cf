-- A turn by a line of the text.
use Rattle.std.proofs.Common.{◌≡◌, ◌≢◌, ◌+◌, ◌==◌, ℕ, List, [], ap, sym, ◌∙◌, subst, cond}
use Rattle.std.specs.Prelude.{Option, Some, Result, slice_get}
use Rattle.pass_plain.specs.declared.request.Request.TheVariants as requests
use Rattle.pass_plain.specs.Sessions.{Session}
use Rattle.pass_plain.specs.Traces.{Line, fork_as, waited_for}
use Rattle.pass_plain.proofs.Lists.{some_is}
use Rattle.pass_answer.specs.declared.answer.CallEnd.{CallEnd}
use Rattle.pass_answer.specs.declared.answer.Moved.{Moved}
use Rattle.pass_proc.specs.Procs.{ProcView}
use Rattle.pass_progress.specs.Progress.{BirthLaw, IsBetween, LastReadLaw, MayGoOn, Progresses}
use Rattle.pass_replay.specs.Lines.{AreLinesBehind, IsLineAt, IsLineCall, IsNextLine}
use Rattle.pass_trace.specs.TraceLines.{call_of, plain_line, plain_trace}
use Rattle.pass_trace.specs.declared.trace.Command.TheVariants as command
use Rattle.pass_trace.specs.declared.trace.TraceLine.{TraceLine}
use Rattle.pass_walk.specs.declared.children.Children.{Children}
use Rattle.pass_walk.specs.declared.ends.Cause.TheVariants as causes
use Rattle.pass_walk.specs.declared.walker.Living.{Living}
use Rattle.pass_walk.specs.declared.walker.Went.{Went}
use Rattle.pass_progress.specs.Calls.{request_with}
use Rattle.pass_walk.specs.Calls.{HasForked, HasNotForked}
use Rattle.pass_walk.specs.Lefts.{left_at}
use Rattle.pass_walk.specs.declared.walker.Outcome.{Outcome}
use Rattle.pass_walk.specs.declared.walker.Outcome.TheVariants as outcomes
use Rattle.pass_walk.specs.Outcomes.{HasBorne, IsAfter, gone_on, outcome_of, unfinished_of}
use Rattle.pass_walk.specs.Walkers.{HasWent, IsLivingOf, pnode_among}
use Rattle.pass_walk.proofs.CallTurns.{called, line_call, may_make, request_is}
use Rattle.pass_walk.proofs.Forks.{forked, may_fork, not_forked}
use Rattle.pass_walk.proofs.Linked.{plain_at}

-- what the command of a line says of the line
pub fork_at : (lines : List TraceLine) (place : ℕ) (m : TraceLine) → slice_get lines place ≡ Some m → (child : ℕ) → m.command ≡ command.Fork child
    → (l : Line) → slice_get (plain_trace lines) place ≡ Some l → l.call ≡ fork_as child
fork_at lines place m there child is l at = ap (λ (l : Line). l.call) (sym (some_is (plain_line m) l (sym (plain_at lines place m there) ∙ at))) ∙ ap call_of is

pub other_at : (lines : List TraceLine) (place : ℕ) (m : TraceLine) → slice_get lines place ≡ Some m → ((child : ℕ) → call_of m.command ≢ fork_as child)
    → (l : Line) (child : ℕ) → slice_get (plain_trace lines) place ≡ Some l → l.call ≢ fork_as child
other_at lines place m there apart l child at forks = apart child (ap (λ (l : Line). l.call) (some_is (plain_line m) l (sym (plain_at lines place m there) ∙ at)) ∙ forks)

-- a process that has gone on is as after its call
settled : {J : Type 0} (outcome : Outcome) (next : Option ℕ) (left : ℕ) (l : Living J) (w : Went J) → IsAfter outcome (gone_on outcome next l).line left (gone_on outcome next l) w → IsAfter outcome next left l w
settled outcomes.Goes next left l w is = is
settled outcomes.Waits next left l w is = is
settled (outcomes.Fails cause) next left l w is = is

pub after_going_on : {J : Type 0} (outcome found : Outcome) (next : Option ℕ) (left : ℕ) (l gone : Living J) (w : Went J) → found ≡ outcome → gone ≡ gone_on found next l
    → IsAfter found gone.line left gone w → IsAfter outcome next left l w
after_going_on outcome found next left l gone w same is after =
    subst (λ o. IsAfter o next left l w) same (settled found next left l w (subst (λ (x : Living _). IsAfter found x.line left x w) is after))

module _ {J : Type 0} (session : Session) (lines : List TraceLine) (behind : AreLinesBehind [] (plain_trace lines)) (l : Living J) (is : IsLivingOf session (plain_trace lines) l) (place : ℕ) (line : l.line ≡ Some place) where
  module _ (m : TraceLine) (there : slice_get lines place ≡ Some m) where
    at : slice_get (plain_trace lines) place ≡ Some (plain_line m)
    at = plain_at lines place m there

    pub may_call : IsLineCall (call_of m.command)
    may_call = line_call session (plain_trace lines) behind l is place line (plain_line m) at

    module _ (last_law : LastReadLaw) (between : IsBetween session l.proc) (waited : ℕ) (known : (q : ℕ) → waited_for (call_of m.command) ≡ Some q → waited ≡ pnode_among l.children q) where
      pub may_make_it : MayGoOn l.proc (request_with waited l.proc (call_of m.command))
      may_make_it =
          subst (λ r. MayGoOn l.proc r) (sym (request_is session (plain_trace lines) behind l is place line (plain_line m) at last_law between waited known))
          (may_make session (plain_trace lines) behind l is place line (plain_line m) at)

      -- the turn, by what the call of the line answered
      pub called_so : ((k : Line) (child : ℕ) → slice_get (plain_trace lines) place ≡ Some k → k.call ≢ fork_as child) → BirthLaw → (places : ℕ) (new : ProcView) (end : Result Moved CallEnd)
          → Progresses session places l.proc new (request_with waited l.proc (call_of m.command)) end → (next : Option ℕ)
          → ((k : Line) → slice_get (plain_trace lines) place ≡ Some k → IsNextLine (plain_trace lines) k.process (place + 1) next) → (left : ℕ) → left ≡ left_at (plain_trace lines) l.process l.line
          → (w : Went J) → IsAfter (outcome_of end) next left (record l { proc = new }) w → HasWent session places (plain_trace lines) l w
      called_so other birth_law places new end progresses next after left left_is w is_w =
          called session (plain_trace lines) behind l is place line (plain_line m) at (λ child. other (plain_line m) child at) birth_law places new end
          (subst (λ r. Progresses session places l.proc new r end) (request_is session (plain_trace lines) behind l is place line (plain_line m) at last_law between waited known) progresses)
          next (after (plain_line m) at) left left_is w is_w

  module _ (child : ℕ) (forks : (k : Line) → slice_get (plain_trace lines) place ≡ Some k → k.call ≡ fork_as child) where
    its_line : (k : Line) × (slice_get (plain_trace lines) place ≡ Some k)
    its_line = let (k, there, own, count) = subst (λ (o : Option ℕ). IsLineAt (plain_trace lines) l.process is.done o) line is.line in (k, there)

    pub may_fork_it : MayGoOn l.proc requests.Fork
    may_fork_it = may_fork session (plain_trace lines) behind l is place line its_line.0 its_line.1 child (forks its_line.0 its_line.1)

    module _ (places : ℕ) (new : ProcView) (next : Option ℕ) (after : (k : Line) → slice_get (plain_trace lines) place ≡ Some k → IsNextLine (plain_trace lines) k.process (place + 1) next)
        (children : Children) (same : (q : ℕ) → pnode_among children q ≡ pnode_among l.children q) (w : Went J) where
      -- the turn, where the fork went through
      pub forked_so : (born : ProcView) → HasForked session l.proc new born → (first : Option ℕ) → IsNextLine (plain_trace lines) child 0 first
          → HasBorne child born next first (record l { children = children; proc = new }) w → HasWent session places (plain_trace lines) l w
      forked_so born f first its_first borne =
          subst (λ w. HasWent session places (plain_trace lines) l w) (sym borne.is)
          (forked session (plain_trace lines) behind l is place line its_line.0 its_line.1 child (forks its_line.0 its_line.1) new born f next (after its_line.0 its_line.1) first its_first borne.children
          (λ q. borne.noted q ∙ ap (λ n. cond (child == q) born.who n) (same q)) places borne.none)

      -- and where it did not
      pub not_forked_so : (end : CallEnd) → HasNotForked session places l.proc new end → (left : ℕ) → left ≡ left_at (plain_trace lines) l.process l.line
          → IsAfter (unfinished_of causes.Refused end) next left (record l { children = children; proc = new }) w → HasWent session places (plain_trace lines) l w
      not_forked_so end is_not left left_is is_w =
          not_forked session (plain_trace lines) behind l is place line its_line.0 its_line.1 child (forks its_line.0 its_line.1) places new end is_not next left left_is children same w is_w
