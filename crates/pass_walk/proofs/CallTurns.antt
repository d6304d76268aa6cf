-- A turn by the call of a line.
use Rattle.std.proofs.Common.{◌≡◌, ◌≢◌, ◌<◌, ◌+◌, ℕ, List, [], length, drop, take, refl, ap, sym, ◌∙◌, subst, arith, false}
use Rattle.std.specs.Prelude.{Option, Some, None, Result, Ok, Err, slice_get}
use Rattle.std.proofs.lemmas.Option.{slice_get_within}
use mathlib.Core.List.{IsPrefix}
use Rattle.pass_plain.specs.declared.request.Request.{Request}
use Rattle.pass_plain.specs.declared.request.Request.TheVariants as requests
use Rattle.pass_plain.specs.Histories.{call_entries}
use Rattle.pass_plain.specs.Legal.{IsLegal, before_call}
use Rattle.pass_plain.specs.Places.{left_places, need_of}
use Rattle.pass_plain.specs.Processes.{has_ended}
use Rattle.pass_plain.specs.Runs.{next_number}
use Rattle.pass_plain.specs.Sessions.{Session}
use Rattle.pass_plain.specs.Traces.{Line, LineCall, given, write_last, fork_as, wait_for, await_for, waited_for, request_of, lines_of, calls_of}
use Rattle.pass_plain.proofs.Lists.{some_is}
use Rattle.pass_answer.specs.declared.answer.CallEnd.{CallEnd}
use Rattle.pass_answer.specs.declared.answer.CallEnd.TheVariants as ends
use Rattle.pass_answer.specs.declared.answer.Moved.{Moved}
use Rattle.pass_proc.specs.Procs.{ProcView}
use Rattle.pass_progress.specs.Progress.{BirthLaw, BornAs, HasGoneOn, IsBetween, IsDone, IsNotDone, IsNotReady, IsShortOfPlaces, LastReadLaw, MayGoOn, Progresses}
use Rattle.pass_replay.specs.Members.{request_by}
use Rattle.pass_replay.specs.Lines.{AreLinesBehind, IsLineCall, IsLineAt, IsNextLine}
use Rattle.pass_replay.proofs.Births.{call_at_line}
use Rattle.pass_replay.proofs.NextCalls.{calls_length, line_behind, named_call}
use Rattle.pass_sched.specs.declared.task.Turn.TheVariants as turn
use Rattle.pass_walk.specs.declared.ends.Cause.{Cause}
use Rattle.pass_walk.specs.declared.ends.Cause.TheVariants as causes
use Rattle.pass_walk.specs.declared.walker.Living.{Living}
use Rattle.pass_walk.specs.declared.walker.Walker.{Walker}
use Rattle.pass_walk.specs.declared.walker.Walker.TheVariants as walker
use Rattle.pass_walk.specs.declared.walker.Went.{Went}
use Rattle.pass_progress.specs.Calls.{request_with}
use Rattle.pass_walk.specs.Causes.{IsCauseOf, LacksPlaces}
use Rattle.pass_walk.specs.Lefts.{of_child, left_in, left_at}
use Rattle.pass_walk.specs.Outcomes.{IsAfter, outcome_of}
use Rattle.pass_walk.specs.Walkers.{HasWent, IsLivingOf, member_of, pnode_among}
use Rattle.pass_walk.proofs.LeftLemmas.{left_line}
use Rattle.pass_walk.proofs.Placed.{line_there, next_line}
use Rattle.pass_walk.proofs.Walks.{goes_counts, known_after, left_went, line_in, makes_now, may_go_on, no_fork, no_kid, right_now, stayed, waits, went_on}

pub waited_same : (pnode : ℕ → ℕ) (waited : ℕ) (last : List ℕ) (call : LineCall) → ((q : ℕ) → waited_for call ≡ Some q → waited ≡ pnode q) → request_of (λ p. waited) last call ≡ request_of pnode last call
waited_same pnode waited last (given r) known = refl
waited_same pnode waited last (write_last fd) known = refl
waited_same pnode waited last (fork_as child) known = refl
waited_same pnode waited last (wait_for q) known = ap (λ n. requests.WaitChild n) (known q refl)
waited_same pnode waited last (await_for q) known = ap (λ n. requests.Await n) (known q refl)

no_child : (left : ℕ → ℕ) (call : LineCall) → ((child : ℕ) → call ≢ fork_as child) → of_child left call ≡ 0
no_child left (given r) other = refl
no_child left (write_last fd) other = refl
no_child left (fork_as child) other = absurd (other child refl)
no_child left (wait_for q) other = refl
no_child left (await_for q) other = refl

module _ {J : Type 0} (session : Session) (trace : List Line) (behind : AreLinesBehind [] trace) (l : Living J) (is : IsLivingOf session trace l) (place : ℕ) (line : l.line ≡ Some place) (m : Line)
    (there : slice_get trace place ≡ Some m) where
  at_line : (n : Line) × (slice_get trace place ≡ Some n) × (n.process ≡ l.process) × (length (lines_of (take place trace) l.process) ≡ is.done)
  at_line = subst (λ (o : Option ℕ). IsLineAt trace l.process is.done o) line is.line

  same_line : at_line.0 ≡ m
  same_line = some_is at_line.0 m (sym at_line.1 ∙ there)

  pub own_line : m.process ≡ l.process
  own_line = ap (λ (m : Line). m.process) (sym same_line) ∙ at_line.2

  pub in_lines : slice_get (lines_of trace l.process) is.done ≡ Some m
  in_lines = line_there trace l.process place is.done m there own_line at_line.3

  pub call_stands : slice_get (calls_of trace l.process) is.done ≡ Some m.call
  call_stands = call_at_line trace l.process is.done m in_lines

  pub another : is.done + 1 < length (calls_of trace l.process)
  another = (let a = slice_get_within (lines_of trace l.process) is.done m in_lines in let b = calls_length trace l.process in omega (arith, a, b))

  pub line_call : IsLineCall m.call
  line_call = (line_behind trace l.process is.done m behind in_lines).1.within

  pub line_after : (next : Option ℕ) → IsNextLine trace m.process (place + 1) next → IsLineAt trace l.process (is.done + 1) next
  line_after next after = next_line trace l.process place is.done m next there own_line at_line.3 (subst (λ p. IsNextLine trace p (place + 1) next) own_line after)

  pub left_after : (next : Option ℕ) → IsNextLine trace m.process (place + 1) next → left_at trace l.process l.line ≡ 1 + of_child (λ p. left_in (drop (place + 1) trace) p) m.call + left_at trace l.process next
  left_after next after = ap (λ o. left_at trace l.process o) line ∙ left_line trace l.process place m next there own_line (subst (λ p. IsNextLine trace p (place + 1) next) own_line after)

  abbrev pub its_request : Request
  its_request = request_by (pnode_among l.children) l.proc.seen l.proc.who (is.done + 1) m.call

  -- the request that was made
  pub request_is : LastReadLaw → IsBetween session l.proc → (waited : ℕ) → ((q : ℕ) → waited_for m.call ≡ Some q → waited ≡ pnode_among l.children q) → request_with waited l.proc m.call ≡ its_request
  request_is last_law between waited known =
      waited_same (pnode_among l.children) waited l.proc.state.last_read m.call known
      ∙ ap (λ last. request_of (pnode_among l.children) last m.call)
      (last_law session l.proc its_request between (may_go_on session trace behind l is m.call call_stands) ∙ ap (λ n. (before_call l.proc.seen l.proc.who n).last_read) is.local.next)

  pub may_make : MayGoOn l.proc its_request
  may_make = may_go_on session trace behind l is m.call call_stands

  -- too few places are left to the line's call
  pub lacks : (places : ℕ) (new : ProcView) (d : IsNotDone session l.proc new its_request) → IsShortOfPlaces places l.proc.who its_request new.seen
      → LacksPlaces session places trace (record { process = l.process; who = new.who; seen = new.seen; ended = false })
  lacks places new d f = record {
    done = is.done;
    call = m.call;
    stands = call_stands;
    right = right_now session trace behind l is m.call call_stands new d.on.who d.on.goes;
    none = ap (λ w. call_entries new.seen w (is.done + 1)) d.on.who ∙ ap (λ n. call_entries new.seen l.proc.who n) (sym (d.unanswered.next ∙ is.local.next)) ∙ f.none;
    lacks = subst (λ n. left_places places new.seen < n) (ap need_of (named_call (pnode_among l.children) (before_call l.proc.seen l.proc.who (is.done + 1)).last_read m.call)) f.lacks;
  }

  -- it is left with its call under way
  pub left_with : (places : ℕ) (new : ProcView) (d : IsNotDone session l.proc new its_request) (left : ℕ) (cause : Cause) → BornAs l.proc.who l.proc.seen new.seen (λ what. ⊥) → left ≡ left_at trace l.process l.line
      → IsCauseOf session places trace (record { process = l.process; who = new.who; seen = new.seen; ended = false }) cause
      → (w : Went J) → w ≡ record { walker = walker.Left (record { process = l.process; left = left; trail = record { who = new.who; seen = new.seen }; cause = cause }); answer = turn.Failed; kid = None }
      → HasWent session places trace l w
  left_with places new d left cause births left_is caused w is_w =
      subst (λ w. HasWent session places trace l w) (sym is_w)
      (left_went session places trace l new left cause d.on.who d.on.goes.begins (makes_now session trace behind l is m.call call_stands new d.on.who d.on.goes)
      (ap (λ w. has_ended new.seen w) d.on.who ∙ d.unanswered.living) d.on.goes.legal (goes_counts session l.proc.who its_request l.proc.seen new.seen d.on.goes) births left_is caused)

  -- it waits at its line
  pub waits_there : (places : ℕ) (new : ProcView) (d : IsNotDone session l.proc new its_request) → BornAs l.proc.who l.proc.seen new.seen (λ what. ⊥) → IsNotReady session l.proc.who its_request new.seen → MayGoOn new its_request
      → (now : Living J) → IsLivingOf session trace now → now.process ≡ l.process → now.proc ≡ new → now.line ≡ l.line
      → (w : Went J) → w ≡ record { walker = walker.Living now; answer = turn.Waiting; kid = None } → HasWent session places trace l w
  waits_there places new d births unready may now lives process proc line_is w is_w =
      subst (λ w. HasWent session places trace l w) (sym is_w) (record {
        walker = lives;
        process = process;
        who = ap (λ (p : ProcView). p.who) proc ∙ d.on.who;
        begins = subst (λ (p : ProcView). IsPrefix l.proc.seen p.seen) (sym proc) d.on.goes.begins;
        kid = tt;
        births = λ n e out descriptors at later by born. absurd (births n e out descriptors (ap (λ (p : ProcView). slice_get p.seen n) (sym proc) ∙ at) later by born);
        moved = λ h. absurd (let z : turn.Waiting ≡ turn.Moved = h in cc);
        stayed = λ h. (ap (λ p. left_at trace p now.line) process ∙ ap (λ o. left_at trace l.process o) line_is, refl);
        goes_on = λ h. let z : turn.Waiting ≡ turn.Ended = h in cc;
        waits = λ h. subst (λ (x : ℕ × ProcView). Rattle.pass_replay.specs.Members.Waits session trace (record { process = x.0; who = x.1.who; seen = x.1.seen; ended = false })) (λ i. (sym process i, sym proc i))
            (waits session trace behind l is m.call call_stands new d unready);
        fails = λ h. absurd (let z : turn.Waiting ≡ turn.Failed = h in cc);
        legal = subst (λ (p : ProcView). IsLegal session p.seen) (sym proc) d.on.goes.legal;
        counts = λ n e at later by. goes_counts session l.proc.who its_request l.proc.seen new.seen d.on.goes n e (ap (λ (p : ProcView). slice_get p.seen n) (sym proc) ∙ at) later by;
        over = λ h. absurd (let z : turn.Waiting ≡ turn.Moved = h in cc);
        next = λ k is h. absurd (let z : turn.Waiting ≡ turn.Moved = h in cc);
        line = λ k is h. ap (λ (w : Walker J). line_in w) (sym is) ∙ line_is;
        shares = λ kid h. absurd (no_kid kid h);
        forks = λ kid h. absurd (no_kid kid h);
      })

  module _ (other : (child : ℕ) → m.call ≢ fork_as child) (birth_law : BirthLaw) (places : ℕ) (new : ProcView) where
    childless : HasGoneOn session l.proc new its_request → BornAs l.proc.who l.proc.seen new.seen (λ what. ⊥)
    childless on n e out descriptors at later by born =
        no_fork (pnode_among l.children) _ m.call line_call other (birth_law session l.proc.who its_request l.proc.seen new.seen on.goes n e out descriptors at later by born).0

    moved_on : IsDone session l.proc new its_request → (next : Option ℕ) → IsNextLine trace m.process (place + 1) next
        → (w : Went J) → w ≡ record { walker = walker.Living (record { process = l.process; line = next; children = l.children; proc = new }); answer = turn.Moved; kid = None } → HasWent session places trace l w
    moved_on d next after w is_w =
        subst (λ w. HasWent session places trace l w) (sym is_w) (record {
          walker = went_on session trace behind l is m.call call_stands new d l.children (known_after session trace behind l is m.call call_stands new d.on.who d.on.goes other) another next (line_after next after);
          process = refl;
          who = d.on.who;
          begins = d.on.goes.begins;
          kid = tt;
          births = λ n e out descriptors at later by born. absurd (childless d.on n e out descriptors at later by born);
          moved = λ h. (let a = left_after next after in let b = no_child (λ p. left_in (drop (place + 1) trace) p) m.call other in omega (arith, a, b));
          stayed = λ h. absurd (h refl);
          goes_on = λ h. let z : turn.Moved ≡ turn.Ended = h in cc;
          waits = λ h. absurd (let z : turn.Moved ≡ turn.Waiting = h in cc);
          fails = λ h. absurd (let z : turn.Moved ≡ turn.Failed = h in cc);
          legal = d.on.goes.legal;
          counts = goes_counts session l.proc.who its_request l.proc.seen new.seen d.on.goes;
          over = λ h. d.answered.over;
          next = λ k is h. ap (λ (w : Walker J). next_number (member_of w).seen l.proc.who) (sym is) ∙ d.answered.next;
          line = λ k is h. absurd (let z : turn.Moved ≡ turn.Waiting = h in cc);
          shares = λ kid h. absurd (no_kid kid h);
          forks = λ kid h. absurd (no_kid kid h);
        })

    -- the turn, by what the call answered
    pub called : (end : Result Moved CallEnd) → Progresses session places l.proc new its_request end → (next : Option ℕ) → IsNextLine trace m.process (place + 1) next → (left : ℕ) → left ≡ left_at trace l.process l.line
        → (w : Went J) → IsAfter (outcome_of end) next left (record l { proc = new }) w → HasWent session places trace l w
    called (Ok x) d next after left is_left w is_w = moved_on d next after w is_w
    called (Err (ends.Fault f)) d next after left is_left w is_w = moved_on d next after w is_w
    called (Err ends.Again) (d, unready, may) next after left is_left w is_w =
        waits_there places new d (childless d.on) unready may (record l { proc = new }) (stayed session trace behind l is m.call call_stands new d.on.who d.on.goes d.unanswered may) refl refl refl w is_w
    called (Err (ends.Full few need)) (d, short, may) next after left is_left w is_w = left_with places new d left causes.TooFewPlaces (childless d.on) is_left (lacks places new d short) w is_w
    called (Err (ends.DiskFault opened now)) d next after left is_left w is_w = left_with places new d left (causes.DiskFault opened now) (childless d.on) is_left tt w is_w
    called (Err ends.NoMemory) d next after left is_left w is_w = left_with places new d left causes.NoMemory (childless d.on) is_left tt w is_w
