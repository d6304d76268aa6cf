-- A run in the order of the text, from its first process to its end.
use Rattle.std.proofs.Common.{◌≡◌, ◌≤◌, ◌+◌, ℕ, List, [], ◌∷◌, length, map, refl, ap, sym, ◌∙◌, subst, arith, IsPermutation}
use Rattle.std.specs.BinaryHeap.{IsHeap, heap_capacity, heap_items, heap_len}
use Rattle.std.specs.Prelude.{Option, Some, None, IfSome, vec_capacity, vec_len}
use Rattle.std.proofs.lemmas.List.Sorted.{IsPermutation-refl}
use Rattle.pass_plain.specs.Sessions.{Session}
use Rattle.pass_plain.specs.Traces.{Line}
use Rattle.pass_proc.specs.Ends.{TrailView}
use Rattle.pass_proc.specs.Procs.{ProcView}
use Rattle.pass_progress.specs.Progress.{IsBetween, NewbornLaw}
use Rattle.pass_replay.specs.Lines.{AreLinesBehind, IsNextLine}
use Rattle.pass_replay.specs.Tries.{TriesLaw}
use Rattle.pass_replay.proofs.Begun.{first_has_begun}
use Rattle.pass_walk.specs.declared.children.Children.{Children}
use Rattle.pass_walk.specs.declared.ends.Last.{Last}
use Rattle.pass_walk.specs.declared.ends.Last.TheVariants as lasts
use Rattle.pass_walk.specs.declared.ends.Cause.{Cause}
use Rattle.pass_walk.specs.declared.ends.Cause.TheVariants as causes
use Rattle.pass_walk.specs.declared.walker.Living.{Living}
use Rattle.pass_walk.specs.declared.walker.Walker.{Walker}
use Rattle.pass_walk.specs.declared.walker.Walker.TheVariants as walker
use Rattle.pass_walk.specs.Causes.{IsSeen}
use Rattle.pass_walk.specs.Lefts.{left_at, left_in}
use Rattle.pass_walk.specs.Runs.{IsRanBy, trail_of}
use Rattle.pass_walk.specs.Walkers.{IsKid, IsWalkerOf, member_of}
use Rattle.pass_walk.proofs.Forks.{newborn_is}
use Rattle.pass_walk.proofs.Planned.{all_left}
use Rattle.pass_walk.proofs.Walks.{some_seen}
use Rattle.pass_order.specs.declared.queue.Queue.{Queue}
use Rattle.pass_order.specs.declared.standing.Standing.{Standing}
use Rattle.pass_order.specs.Queues.{GoesOnOrEnds, HasFailedUnseen, IsPlayed, IsQueue, IsSet, IsStopped, IsThere, rank_order, room_in}
use Rattle.pass_order.specs.Ranks.{rank_of}
use Rattle.pass_order.specs.Replayed.{IsReplayedBy}
use Rattle.pass_order.proofs.Ending.{stopped_of, unseen_so}
use Rattle.pass_order.proofs.Played.{ran_by, replayed}
use Rattle.pass_order.proofs.Rooming.{few_walkers, kid_room}
use Rattle.pass_order.proofs.Starting.{starts}

module _ (J : Type 0) (session : Session) (places : ℕ) (trace : List Line) (newborn_law : NewbornLaw) (p : ProcView) (between : IsBetween session p) (first : (p.who ≡ session.start.ceiling + 1) × (p.number ≡ 0))
    (line : Option ℕ) (its_first : IsNextLine trace 1 0 line) (children : Children) where
  abbrev pub first_living : Living J
  first_living = record { process = 1; line = line; children = children; proc = p }

  -- the first process has just begun
  pub first_kid : IsKid session trace first_living
  first_kid =
      let (newborn, rest) = newborn_law session p between first.1 in
      record {
        living = newborn_is session trace 1 p newborn rest line its_first
            (first_has_begun session trace p.seen (some_seen p.seen p.who newborn.begun) ∙ ap (λ w. Some w) (sym first.0)) children;
        silent = newborn.silent;
      }

  abbrev pub first_standing : Standing
  first_standing = record { rank = rank_of line 0; place = 0; seen = 0 }

  abbrev pub first_walkers : List (Walker J)
  first_walkers = walker.Living first_living ∷ []

  -- it has the room of all that come of it
  pub first_room : room_in trace first_walkers ≡ left_at trace 1 line
  first_room = kid_room trace (Some first_living)

  pub first_stopped : IsStopped session places trace first_walkers
  first_stopped = stopped_of session places trace first_walkers (first_standing ∷ []) [] 0 p.seen []
      (starts session trace first_living first_kid refl first.0 (first_standing ∷ []) (IsPermutation-refl (first_standing ∷ [])))

  -- no call was made, for want of memory
  pub unmade_played : IsPlayed session places trace first_walkers (lasts.Failed causes.NoMemory)
  unmade_played = record {
    stopped = first_stopped;
    done = λ is. absurd (let z : lasts.Failed causes.NoMemory ≡ lasts.Done = is in cc);
    stuck = λ is. absurd (let z : lasts.Failed causes.NoMemory ≡ lasts.Stuck = is in cc);
    failed = λ cause is seen. absurd (subst IsSeen (sym (cause_is cause is)) seen);
  }
    where
      cause_is : (cause : Cause) → ◌≡◌ {A = Last} (lasts.Failed causes.NoMemory) (lasts.Failed cause) → causes.NoMemory ≡ cause
      cause_is cause e = cc

  -- as many as come of it have room for their trails
  pub trails_fit : (queue : Queue J) → queue.walkers.items ≡ first_walkers → (ws : List (Walker J)) (room : ℕ) → room_in trace ws ≤ room_in trace queue.walkers.items → left_in trace 1 ≤ room → length ws ≤ room
  trails_fit queue walkers ws room fewer fits =
      let a = few_walkers trace ws in
      let b = ap (λ (ws : List (Walker J)). room_in trace ws) walkers in
      let c = first_room in
      let d = all_left trace 1 line its_first in
      omega (arith, a, b, c, d, fewer, fits)

  -- the queue with it alone
  module _ (queue : Queue J) (walkers : queue.walkers.items ≡ first_walkers) (due : IsPermutation (first_standing ∷ []) (heap_items queue.due)) (heap : IsHeap rank_order (heap_items queue.due))
      (late : queue.late.items ≡ []) (last : queue.last ≡ 0) where
    queued : IsQueue session trace queue.walkers.items (heap_items queue.due) queue.late.items queue.last p.seen []
    queued = subst (λ (x : List (Walker J) × List Standing × ℕ). IsQueue session trace x.0 (heap_items queue.due) x.1 x.2 p.seen []) (λ i. (sym walkers i, sym late i, sym last i))
        (starts session trace first_living first_kid refl first.0 (heap_items queue.due) due)

    same_room : room_in trace queue.walkers.items ≡ left_at trace 1 line
    same_room = ap (λ (ws : List (Walker J)). room_in trace ws) walkers ∙ first_room

    pub first_set : left_at trace 1 line ≤ vec_capacity queue.walkers → left_at trace 1 line ≤ heap_capacity queue.due → left_at trace 1 line ≤ vec_capacity queue.late → heap_len queue.due + vec_len queue.late ≤ 1
        → IsSet session trace queue
    first_set walkers_fit due_fits late_fits few = record {
      upto = p.seen;
      tries = [];
      queued = queued;
      heap = heap;
      roomy = record {
        walkers = (let a = same_room in omega (arith, a, walkers_fit));
        due = (let a = same_room in omega (arith, a, due_fits));
        late = (let a = same_room in omega (arith, a, late_fits));
        few = (let a = ap (λ (ws : List (Walker J)). length ws) walkers in omega (arith, a, few));
      };
    }

-- each process is there
pub are_there : {J : Type 0} (session : Session) (places : ℕ) (trace : List Line) (w : Walker J) → IsWalkerOf session places trace w → IsThere w
are_there session places trace (walker.Living l) is = tt {0}
are_there session places trace (walker.Ended e) is = tt {0}
are_there session places trace (walker.Left l) is = tt {0}
are_there session places trace walker.Gone is = absurd is

-- what is handed out
module _ {J : Type 0} (session : Session) (places : ℕ) (trace : List Line) (ws : List (Walker J)) (last : Last) (played : IsPlayed session places trace ws last) (trails : List TrailView) (are : trails ≡ map (λ w. trail_of (member_of w)) ws) where
  pub performed_run : IsRanBy session places trace trails last
  performed_run = ran_by session places trace ws last played trails are

  pub performed_replay : TriesLaw → AreLinesBehind [] trace → IsReplayedBy session trace trails
  performed_replay tries_law ordered = subst (λ ts. IsReplayedBy session trace ts) (sym are) (replayed session places trace ws played.stopped tries_law ordered)

-- a call was made, and blocks may have been put aside behind it
pub made_on : {J : Type 0} (session : Session) (places : ℕ) (trace : List Line) (queue : Queue J) → IsSet session trace queue → (end : Option Last) → IfSome end HasFailedUnseen → GoesOnOrEnds session places trace end queue
made_on session places trace queue set None fails = set
made_on session places trace queue set (Some last) (cause, is, unseen) =
    subst (λ last. IsPlayed session places trace queue.walkers.items last) (sym is) (unseen_so session places trace queue set cause unseen)
