-- A turn by the fork of a line.
use Rattle.std.proofs.Common.{◌≡◌, ◌≢◌, ◌<◌, ◌≤◌, ◌+◌, ◌-◌, ℕ, zero, suc, List, [], ◌∷◌, ◌++◌, length, drop, take, refl, ap, sym, ◌∙◌, subst, arith, inl, inr, true, false, cond, ◌==◌}
use Rattle.std.specs.Prelude.{Option, Some, None, slice_get}
use Rattle.std.proofs.lemmas.Bool.{cases_lt, or_right}
use Rattle.std.proofs.lemmas.List.{append-nil}
use Rattle.std.proofs.lemmas.Option.{slice_get_within}
use Rattle.pass_plain.specs.declared.request.Request.TheVariants as requests
use Rattle.pass_plain.specs.Histories.{call_entries}
use Rattle.pass_plain.specs.Calls.{pnode_at}
use Rattle.pass_plain.specs.Legal.{is_over}
use Rattle.pass_plain.specs.Sessions.{Session}
use Rattle.pass_plain.specs.Traces.{Line, LineCall, fork_as, lines_of, calls_of}
use Rattle.pass_plain.specs.Runs.{next_number, pnode_of_process}
use Rattle.pass_plain.proofs.Lists.{some_is, any_of, same_itself, filtered, slice_get-front, alike, different}
use Rattle.pass_answer.specs.declared.answer.CallEnd.{CallEnd}
use Rattle.pass_answer.specs.declared.answer.CallEnd.TheVariants as ends
use Rattle.pass_proc.specs.Procs.{ProcView}
use Rattle.pass_plain.specs.Processes.{has_ended}
use Rattle.pass_plain.proofs.OtherCalls.{last_none}
use Rattle.pass_progress.specs.Progress.{IsAtRest, IsNewborn, IsNotDone, IsNotReady, IsShortOfPlaces, MayGoOn}
use Rattle.pass_replay.specs.Lines.{is_there, is_fork_of, AreLinesBehind, IsNextLine}
use Rattle.pass_replay.specs.Members.{KnowsChildren, request_by}
use Rattle.pass_replay.proofs.Begun.{child_has_begun, no_later_fork}
use Rattle.pass_replay.proofs.NextCalls.{behind_at, calls_length, line_behind}
use Rattle.pass_replay.proofs.Positions.{lines-append}
use Rattle.pass_sched.specs.declared.task.Turn.TheVariants as turn
use Rattle.pass_walk.specs.declared.children.Children.{Children}
use Rattle.pass_walk.specs.declared.ends.Cause.TheVariants as causes
use Rattle.pass_walk.specs.declared.walker.Living.{Living}
use Rattle.pass_walk.specs.declared.walker.Outcome.TheVariants as outcomes
use Rattle.pass_walk.specs.declared.walker.Walker.{Walker}
use Rattle.pass_walk.specs.declared.walker.Walker.TheVariants as walker
use Rattle.pass_walk.specs.declared.walker.Went.{Went}
use Rattle.pass_walk.specs.Calls.{HasForked, HasNotForked}
use Rattle.pass_walk.specs.Local.{IsLocal}
use Rattle.pass_walk.specs.Lefts.{of_child, left_in, left_at}
use Rattle.pass_walk.specs.Outcomes.{IsAfter, unfinished_of}
use Rattle.pass_walk.specs.Walkers.{HasWent, IsLivingOf, member_of, pnode_among}
use Rattle.pass_walk.proofs.CallTurns.{another, call_stands, in_lines, its_request, lacks, left_after, left_with, line_after, waits_there}
use Rattle.pass_walk.proofs.LeftBounds.{behind_from}
use Rattle.pass_walk.proofs.LeftLemmas.{drop_at, left_from}
use Rattle.pass_walk.proofs.Placed.{first_line}
use Rattle.pass_walk.proofs.Walks.{counted, goes_counts, known_before, left_went, makes_now, may_go_on, right_now, stayed, went_on}
use Rattle.pass_entry.proofs.Places.{parted}

-- two lines of a process that stand apart don't fork the same child
earlier_line : (trace : List Line) (behind : AreLinesBehind [] trace) (process j k child : ℕ) (m n : Line) → j < k → slice_get (lines_of trace process) j ≡ Some m → slice_get (lines_of trace process) k ≡ Some n
    → m.call ≡ fork_as child → n.call ≡ fork_as child → ⊥
earlier_line trace behind process j k child m n less m_at n_at m_forks n_forks =
    let (s, rules) = line_behind trace process k n behind n_at in
    let fewer : j < length (lines_of s.before process) = (let c = s.count in omega (arith, c, less)) in
    let whole : lines_of trace process ≡ lines_of s.before process ++ lines_of (n ∷ s.after) process = ap (λ (t : List Line). lines_of t process) s.parts ∙ lines-append s.before (n ∷ s.after) process in
    let early = slice_get-front (lines_of s.before process) (lines_of (n ∷ s.after) process) j m fewer (ap (λ ls. slice_get ls j) (sym whole) ∙ m_at) in
    let (passes, i, at) = filtered (λ (l : Line). l.process == process) s.before j m early in
    let there : is_there s.before child ≡ true = or_right (child == 1) _ (any_of (λ (l : Line). is_fork_of child l.call) s.before i m at (ap (λ c. is_fork_of child c) m_forks ∙ same_itself child)) in
    let z : true ≡ false = sym there ∙ rules.forks child n_forks in cc

-- a process that has just begun, and is in no call
pub newborn_is : {J : Type 0} (session : Session) (trace : List Line) (process : ℕ) (p : ProcView) → IsNewborn session p.who p.seen → IsAtRest p → (first : Option ℕ) → IsNextLine trace process 0 first
    → pnode_of_process session trace p.seen process ≡ Some p.who → (children : Children) → IsLivingOf {J = J} session trace (record { process = process; line = first; children = children; proc = p })
newborn_is session trace process p newborn rest first its_first right children = record {
  done = 0;
  legal = newborn.legal;
  local = record {
    makes = record { begun = newborn.begun; steps = λ n e at by. absurd (newborn.silent n e at by) };
    next = ap (λ last. cond (last == 0) 1 (cond (is_over p.seen p.who last) (last + 1) last)) (last_none p.seen p.who newborn.silent);
    living = newborn.living;
    knows = λ k q n early. absurd (omega (arith, early));
    within = (let z = calls_length trace process in omega (arith, z));
  };
  goes = λ call at. inl rest;
  line = first_line trace process first its_first;
  right = right;
}

-- the same children in another table
renoted : {J : Type 0} (session : Session) (trace : List Line) (l : Living J) → IsLivingOf session trace l → (children : Children) → ((q : ℕ) → pnode_among children q ≡ pnode_among l.children q)
    → IsLivingOf session trace (record l { children = children })
renoted session trace l is children same =
    let they : pnode_among l.children ≡ pnode_among children = λ i q. sym (same q) i in
    record {
      done = is.done;
      legal = is.legal;
      local = subst (λ pnode. IsLocal trace l.process l.proc.who l.proc.seen is.done pnode) they is.local;
      goes = subst (λ (pnode : ℕ → ℕ). (call : LineCall) → slice_get (calls_of trace l.process) is.done ≡ Some call → MayGoOn l.proc (request_by pnode l.proc.seen l.proc.who (is.done + 1) call)) they is.goes;
      line = is.line;
      right = is.right;
    }

module _ {J : Type 0} (session : Session) (trace : List Line) (behind : AreLinesBehind [] trace) (l : Living J) (is : IsLivingOf session trace l) (place : ℕ) (line : l.line ≡ Some place) (m : Line)
    (there : slice_get trace place ≡ Some m) (child : ℕ) (forks : m.call ≡ fork_as child) where
  fork_stands : slice_get (calls_of trace l.process) is.done ≡ Some (fork_as child)
  fork_stands = call_stands session trace behind l is place line m there ∙ ap (λ c. Some c) forks

  pub may_fork : MayGoOn l.proc requests.Fork
  may_fork = may_go_on session trace behind l is (fork_as child) fork_stands

  -- the child's lines stand behind the fork
  no_line_yet : (k : ℕ) (n : Line) → k ≤ place → slice_get trace k ≡ Some n → n.process ≢ child
  no_line_yet k n early at same =
      let parts = parted trace k n at in
      let rules = behind_at [] (take k trace) (drop (suc k) trace) n (subst (λ t. AreLinesBehind [] t) parts behind) in
      let known : is_there (take k trace) child ≡ true = ap (λ p. is_there (take k trace) p) (sym same) ∙ rules.there in
      let later : slice_get (n ∷ drop (suc k) trace) (place - k) ≡ Some m =
      ap (λ ls. slice_get ls (place - k)) (sym (drop_at trace k n at)) ∙ at_drop trace k (place - k)
      ∙ ap (λ i. slice_get trace i) (let z : k + (place - k) ≡ place = omega (arith, early) in z) ∙ there in
      no_later_fork (take k trace) (n ∷ drop (suc k) trace) child (place - k) m (behind_from [] (take k trace) (n ∷ drop (suc k) trace) (subst (λ t. AreLinesBehind [] t) parts behind)) known later forks
    where
      at_drop : {X : Type 0} (xs : List X) (k i : ℕ) → slice_get (drop k xs) i ≡ slice_get xs (k + i)
      at_drop xs zero i = ap (λ n. slice_get xs n) (let z : i ≡ 0 + i = omega arith in z)
      at_drop [] (suc k) i = refl
      at_drop (x ∷ xs) (suc k) i = at_drop xs k i ∙ (let z : suc (k + i) ≡ suc k + i = omega arith in ap (λ n. slice_get (x ∷ xs) n) z)

  child_line : (o : Option ℕ) → IsNextLine trace child 0 o → IsNextLine trace child (place + 1) o
  child_line None next = λ k n low at. next k n (omega arith) at
  child_line (Some p) (low, (n, at, own), none) = (
    elim (cases_lt place p) [
      | inl late ↦ (omega (arith, late))
      | inr early ↦ absurd (no_line_yet p n early at own)
    ],
    (n, at, own),
    λ k n low high at. none k n (omega arith) high at,
  )

  module _ (new born : ProcView) (f : HasForked session l.proc new born) (next : Option ℕ) (after : IsNextLine trace m.process (place + 1) next) (first : Option ℕ) (its_first : IsNextLine trace child 0 first)
      (children : Children) (noted : (q : ℕ) → pnode_among children q ≡ cond (child == q) born.who (pnode_among l.children q)) where
    knows : KnowsChildren trace new.seen l.process l.proc.who (is.done + 1) (pnode_among children)
    knows k q n early at n_forks = elim (cases_lt k is.done) [
      | inl less ↦
          let apart : child ≢ q = λ same. earlier_line trace behind l.process k is.done q n m less at (in_lines session trace behind l is place line m there) n_forks (forks ∙ ap (λ c. fork_as c) same) in
          noted q ∙ ap (λ b. cond b born.who (pnode_among l.children q)) (different child q apart)
          ∙ known_before session trace behind l is (fork_as child) fork_stands new f.done.on.who f.done.on.goes k q n less at n_forks
      | inr le ↦
          let same : k ≡ is.done = omega (arith, le, early) in
          let one : m ≡ n = some_is m n (sym (in_lines session trace behind l is place line m there) ∙ ap (λ k. slice_get (lines_of trace l.process) k) (sym same) ∙ at) in
          let child_is : fork_as child ≡ fork_as q = sym forks ∙ ap (λ (l : Line). l.call) one ∙ n_forks in
          let child_same : child ≡ q = cc (child_is) in
          noted q ∙ ap (λ b. cond b born.who (pnode_among l.children q)) (alike child q child_same)
          ∙ f.named ∙ ap (λ n. pnode_at (call_entries new.seen l.proc.who n) 0) (is.local.next ∙ ap (λ n. n + 1) (sym same))
    ]

    kid_right : pnode_of_process session trace born.seen child ≡ Some born.who
    kid_right =
        ap (λ h. pnode_of_process session trace h child) f.seen
        ∙ child_has_begun session trace new.seen l.process is.done child l.proc.who m behind (in_lines session trace behind l is place line m there) forks
        (right_now session trace behind l is (fork_as child) fork_stands new f.done.on.who f.done.on.goes ∙ ap (λ w. Some w) f.done.on.who) (ap (λ n. is_over new.seen l.proc.who n) (sym is.local.next) ∙ f.done.answered.over)
        ∙ ap (λ n. Some (pnode_at (call_entries new.seen l.proc.who n) 0)) (sym is.local.next) ∙ ap (λ w. Some w) (sym f.named)

    pub forked : (places : ℕ) (none : Children) → HasWent session places trace l (record {
      walker = walker.Living (record { process = l.process; line = next; children = children; proc = new });
      answer = turn.Moved;
      kid = Some (record { process = child; line = first; children = none; proc = born });
    })
    forked places none = record {
      walker = went_on session trace behind l is (fork_as child) fork_stands new f.done children knows (another session trace behind l is place line m there) next (line_after session trace behind l is place line m there next after);
      process = refl;
      who = f.done.on.who;
      begins = f.done.on.goes.begins;
      kid = record { living = newborn_is session trace child born f.newborn f.rest first its_first kid_right none; silent = f.newborn.silent };
      births = λ n e out descriptors at later by is_born.
          record { number = is.done; counted = counted session trace behind l is (fork_as child) fork_stands new f.done.on.who f.done.on.goes n e at later by; forks = fork_stands; is = sym (f.births n e out descriptors at later by is_born) };
      moved = λ h.
          let a = left_after session trace behind l is place line m there next after in
          let b = left_from trace child (place + 1) first (child_line first its_first) in
          let c : of_child (λ p. left_in (drop (place + 1) trace) p) m.call ≡ left_in (drop (place + 1) trace) child =
          ap (λ c. of_child (λ p. left_in (drop (place + 1) trace) p) c) forks in
          omega (arith, a, b, c);
      stayed = λ h. absurd (h refl);
      goes_on = λ h. let z : turn.Moved ≡ turn.Ended = h in cc;
      waits = λ h. absurd (let z : turn.Moved ≡ turn.Waiting = h in cc);
      fails = λ h. absurd (let z : turn.Moved ≡ turn.Failed = h in cc);
      legal = f.done.on.goes.legal;
      counts = goes_counts session l.proc.who requests.Fork l.proc.seen new.seen f.done.on.goes;
      over = λ h. f.done.answered.over;
      next = λ k is h. ap (λ (w : Walker J). next_number (member_of w).seen l.proc.who) (sym is) ∙ f.done.answered.next;
      line = λ k is h. absurd (let z : turn.Moved ≡ turn.Waiting = h in cc);
      shares = λ kid h. ap (λ (k : Living J). k.proc.seen) (sym (some_is _ kid h)) ∙ f.seen;
      forks = λ kid h. record { place = place; its = m; is = line; stands = there; forks = forks ∙ ap (λ (k : Living J). fork_as k.process) (some_is _ kid h) };
    }

  fork_request : requests.Fork ≡ its_request session trace behind l is place line m there
  fork_request = ap (λ c. request_by (pnode_among l.children) l.proc.seen l.proc.who (is.done + 1) c) (sym forks)

  -- the turn, where the fork did not go through
  pub not_forked : (places : ℕ) (new : ProcView) (end : CallEnd) → HasNotForked session places l.proc new end → (next : Option ℕ) (left : ℕ) → left ≡ left_at trace l.process l.line
      → (children : Children) → ((q : ℕ) → pnode_among children q ≡ pnode_among l.children q) → (w : Went J) → IsAfter (unfinished_of causes.Refused end) next left (record l { children = children; proc = new }) w
      → HasWent session places trace l w
  not_forked places new (ends.Fault f) is_not next left is_left children same w is_w =
      let d = is_not.progresses in
      subst (λ w. HasWent session places trace l w) (sym is_w)
      (left_went session places trace l new left causes.Refused d.on.who d.on.goes.begins (makes_now session trace behind l is (fork_as child) fork_stands new d.on.who d.on.goes)
      (ap (λ w. has_ended new.seen w) d.on.who ∙ d.answered.living) d.on.goes.legal (goes_counts session l.proc.who requests.Fork l.proc.seen new.seen d.on.goes) is_not.childless is_left (is_not.refused f refl))
  not_forked places new ends.Again is_not next left is_left children same w is_w =
      let (d, unready, may) = is_not.progresses in
      waits_there session trace behind l is place line m there places new (subst (λ r. IsNotDone session l.proc new r) fork_request d) is_not.childless
      (subst (λ r. IsNotReady session l.proc.who r new.seen) fork_request unready) (subst (λ r. MayGoOn new r) fork_request may) (record l { children = children; proc = new })
      (renoted session trace (record l { proc = new }) (stayed session trace behind l is (fork_as child) fork_stands new d.on.who d.on.goes d.unanswered may) children same) refl refl refl w is_w
  not_forked places new (ends.Full few need) is_not next left is_left children same w is_w =
      let (d, short, may) = is_not.progresses in
      let its = subst (λ r. IsNotDone session l.proc new r) fork_request d in
      left_with session trace behind l is place line m there places new its left causes.TooFewPlaces is_not.childless is_left
      (lacks session trace behind l is place line m there places new its (subst (λ r. IsShortOfPlaces places l.proc.who r new.seen) fork_request short)) w is_w
  not_forked places new (ends.DiskFault opened now) is_not next left is_left children same w is_w =
      left_with session trace behind l is place line m there places new (subst (λ r. IsNotDone session l.proc new r) fork_request is_not.progresses) left (causes.DiskFault opened now) is_not.childless is_left tt w is_w
  not_forked places new ends.NoMemory is_not next left is_left children same w is_w =
      left_with session trace behind l is place line m there places new (subst (λ r. IsNotDone session l.proc new r) fork_request is_not.progresses) left causes.NoMemory is_not.childless is_left tt w is_w

-- a process that is left before its call
pub unmade : {J : Type 0} (session : Session) (places : ℕ) (trace : List Line) (l : Living J) → IsLivingOf session trace l → (next : Option ℕ) (left : ℕ) → left ≡ left_at trace l.process l.line → (children : Children) (w : Went J)
    → IsAfter (outcomes.Fails causes.NoMemory) next left (record l { children = children }) w → HasWent session places trace l w
unmade session places trace l is next left is_left children w is_w =
    subst (λ w. HasWent session places trace l w) (sym is_w)
    (left_went session places trace l l.proc left causes.NoMemory refl ([], append-nil l.proc.seen) is.local.makes is.local.living
    is.legal (λ n e at later by. let z = slice_get_within l.proc.seen n e at in absurd (omega (arith, z, later)))
    (λ n e out descriptors at later by born. let z = slice_get_within l.proc.seen n e at in omega (arith, z, later)) is_left tt)
