-- How a run in the order of the text ends.
use Rattle.std.proofs.Common.{◌≡◌, ℕ, List, [], ◌++◌, length, refl, ap, sym, ◌∙◌, subst, arith, true, false}
use Rattle.std.specs.BinaryHeap.{heap_items}
use Rattle.std.specs.Prelude.{Some, slice_get}
use Rattle.pass_entry.specs.declared.entry.Entry.{Entry}
use Rattle.pass_entry.proofs.Places.{Contains-place}
use Rattle.pass_plain.specs.Sessions.{Session}
use Rattle.pass_plain.specs.Traces.{Line}
use Rattle.pass_plain.proofs.Lists.{some_is}
use Rattle.pass_book.proofs.Prefixes.{prefix_shorter, prefix_whole}
use Rattle.pass_replay.specs.Members.{Waits}
use Rattle.pass_replay.specs.Tries.{Try}
use Rattle.pass_walk.specs.declared.ends.Cause.{Cause}
use Rattle.pass_walk.specs.declared.ends.Last.{Last}
use Rattle.pass_walk.specs.declared.ends.Last.TheVariants as lasts
use Rattle.pass_walk.specs.declared.walker.Living.{Living}
use Rattle.pass_walk.specs.declared.walker.Walker.{Walker}
use Rattle.pass_walk.specs.declared.walker.Walker.TheVariants as walker
use Rattle.pass_walk.specs.Causes.{IsSeen}
use Rattle.pass_walk.specs.Walkers.{member_of}
use Rattle.pass_order.specs.declared.queue.Queue.{Queue}
use Rattle.pass_order.specs.declared.standing.Standing.{Standing}
use Rattle.pass_order.specs.Queues.{AreAllStill, HasLeft, IsGoing, IsPlayed, IsQueue, IsSet, IsStopped, lives_at, standing_at}
use Rattle.pass_order.proofs.Meeting.{living_is}
use Rattle.pass_order.proofs.Placing.{living_there, some_at}
use Rattle.pass_order.proofs.Turned.{going_is}

pub stopped_of : {J : Type 0} (session : Session) (places : ℕ) (trace : List Line) (ws : List (Walker J)) (due late : List Standing) (last : ℕ) (upto : List Entry) (tries : List Try) → IsQueue session trace ws due late last upto tries
    → IsStopped session places trace ws
stopped_of session places trace ws due late last upto tries q = record {
  upto = upto;
  tries = tries;
  last_at = (last, q.last_at.0, q.last_at.1, q.last_at.2);
  each = λ i w at. going_is session places trace w (q.going i w at);
  run = q.run;
  tried = q.tried;
}

module _ {J : Type 0} (session : Session) (places : ℕ) (trace : List Line) (queue : Queue J) (set : IsSet session trace queue) where
  abbrev ws : List (Walker J)
  ws = queue.walkers.items

  pub set_stopped : IsStopped session places trace ws
  set_stopped = stopped_of session places trace ws (heap_items queue.due) queue.late.items queue.last set.upto set.tries set.queued

  -- each has made its exit
  pub done_so : ((i : ℕ) (w : Walker J) → slice_get ws i ≡ Some w → (member_of w).ended ≡ true) → IsPlayed session places trace ws lasts.Done
  done_so all = record {
    stopped = set_stopped;
    done = λ is. all;
    stuck = λ is. absurd (let z : lasts.Done ≡ lasts.Stuck = is in cc);
    failed = λ cause is seen. absurd (let z : lasts.Done ≡ lasts.Failed cause = is in cc);
  }

  -- memory or the disk failed
  pub unseen_so : (cause : Cause) → (IsSeen cause → ⊥) → IsPlayed session places trace ws (lasts.Failed cause)
  unseen_so cause unseen = record {
    stopped = set_stopped;
    done = λ is. absurd (let z : lasts.Failed cause ≡ lasts.Done = is in cc);
    stuck = λ is. absurd (let z : lasts.Failed cause ≡ lasts.Stuck = is in cc);
    failed = λ other is seen. absurd (unseen (subst IsSeen (sym (cause_is cause other is)) seen));
  }
    where
      cause_is : (c d : Cause) → ◌≡◌ {A = Last} (lasts.Failed c) (lasts.Failed d) → c ≡ d
      cause_is c d e = cc

  -- all that live wait
  module _ (none : heap_items queue.due ≡ []) (count : ℕ) (still : AreAllStill ws queue.late.items count) where
    waits_living : (i : ℕ) (l : Living J) → slice_get ws i ≡ Some (walker.Living l) → Waits session trace (member_of (walker.Living l))
    waits_living i l at =
        let a : standing_at i queue.late.items ≡ lives_at ws i = ap (λ xs. standing_at i (xs ++ queue.late.items)) (sym none) ∙ set.queued.counted i in
        let b = living_there ws i (walker.Living l) at in
        let (s, there, place) = some_at i queue.late.items (omega (arith, a, b)) in
        let late = set.queued.waiting s there in
        let one : l ≡ late.living = living_is l late.living (some_is (walker.Living l) (walker.Living late.living) (sym at ∙ ap (λ i. slice_get ws i) (sym place) ∙ late.stands)) in
        let (k, at_k) = Contains-place queue.late.items s there in
        let size : length late.waited.tried.after ≡ length l.proc.seen = late.counted ∙ still.tried k s at_k ∙ sym ((still.each i (walker.Living l) at).living refl) in
        let seen : late.waited.tried.after ≡ l.proc.seen =
        prefix_whole late.waited.tried.after l.proc.seen
        (prefix_shorter late.waited.tried.after l.proc.seen set.upto (set.queued.tried.each late.waited.place late.waited.tried late.waited.stands).1 (set.queued.tried.behind i (walker.Living l) at) (omega (arith, size)))
        (omega (arith, size)) in
        subst (λ h. Waits session trace (record { process = l.process; who = l.proc.who; seen = h; ended = false })) seen
        (subst (λ (k : Living J). Waits session trace (record { process = k.process; who = k.proc.who; seen = late.waited.tried.after; ended = false })) (sym one) late.waited.waits)

    waits_there : (w : Walker J) (i : ℕ) → slice_get ws i ≡ Some w → (member_of w).ended ≡ false → IsGoing session trace w → Waits session trace (member_of w)
    waits_there (walker.Living l) i at lives is = waits_living i l at
    waits_there (walker.Ended e) i at lives is = absurd (let z : true ≡ false = lives in cc)
    waits_there (walker.Left x) i at lives is = absurd is
    waits_there walker.Gone i at lives is = absurd is

    pub stuck_so : IsPlayed session places trace ws lasts.Stuck
    stuck_so = record {
      stopped = set_stopped;
      done = λ is. absurd (let z : lasts.Stuck ≡ lasts.Done = is in cc);
      stuck = λ is. (
        count,
        record { one = still.one; place = still.place; stands = still.stands; each = still.each; waits = λ i w at lives. waits_there w i at lives (set.queued.going i w at) },
      );
      failed = λ cause is seen. absurd (let z : lasts.Stuck ≡ lasts.Failed cause = is in cc);
    }

-- one was left
pub failed_so : {J : Type 0} (session : Session) (places : ℕ) (trace : List Line) (ws : List (Walker J)) (cause : Cause) → IsStopped session places trace ws → HasLeft ws cause → IsPlayed session places trace ws (lasts.Failed cause)
failed_so session places trace ws cause stopped left = record {
  stopped = stopped;
  done = λ is. absurd (let z : lasts.Failed cause ≡ lasts.Done = is in cc);
  stuck = λ is. absurd (let z : lasts.Failed cause ≡ lasts.Stuck = is in cc);
  failed = λ other is seen. subst (λ c. HasLeft ws c) (cause_is cause other is) left;
}
  where
    cause_is : (c d : Cause) → ◌≡◌ {A = Last} (lasts.Failed c) (lasts.Failed d) → c ≡ d
    cause_is c d e = cc
