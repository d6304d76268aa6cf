-- One that was due is taken out of the queue.
use Rattle.std.proofs.Common.{◌≡◌, ◌<◌, ◌≤◌, ◌+◌, ℕ, List, [], ◌∷◌, ◌++◌, length, refl, ap, sym, ◌∙◌, subst, arith, inl, inr, true, false, ◌==◌, cond, Global, Vec, IsPermutation, length-append}
use Rattle.std.specs.BinaryHeap.{IsHeap, IsUpperBound, heap_capacity, heap_items, heap_len}
use Rattle.std.specs.declared.collections.BinaryHeap.{BinaryHeap}
use Rattle.std.specs.Ordering.{is_lt, nat_cmp}
use Rattle.std.specs.declared.cmp.Ordering.TheVariants.{Less, Equal, Greater}
use Rattle.std.proofs.lemmas.Bool.{cases_lt, lt-ltb}
use Rattle.std.proofs.lemmas.List.Sorted.{Contains-permutation, IsPermutation-append_left, IsPermutation-sym}
use Rattle.pass_entry.specs.declared.entry.Entry.{Entry}
use Rattle.pass_entry.proofs.Places.{each_contained}
use Rattle.pass_replay.specs.Tries.{Try}
use Rattle.pass_walk.specs.declared.walker.Went.{Went}
use Rattle.std.specs.Prelude.{Some, slice_get, slice_set, vec_capacity, vec_len}
use Rattle.std.proofs.lemmas.Option.{slice_get_within}
use Rattle.pass_plain.specs.Sessions.{Session}
use Rattle.pass_plain.specs.Traces.{Line}
use Rattle.pass_sched.specs.declared.task.Turn.{Turn}
use Rattle.pass_sched.proofs.Perms.{nil_of}
use Rattle.pass_walk.specs.declared.walker.Living.{Living}
use Rattle.pass_walk.specs.declared.walker.Walker.{Walker}
use Rattle.pass_walk.specs.declared.walker.Walker.TheVariants as walker
use Rattle.pass_walk.specs.Walkers.{IsLivingOf}
use Rattle.pass_walk.proofs.Among.{contains}
use Rattle.pass_order.specs.declared.queue.Queue.{Queue}
use Rattle.pass_order.specs.declared.standing.Standing.{Standing}
use Rattle.pass_order.specs.Queues.{HasBegunAgain, IsGoingOrGone, IsQueue, IsRoomy, IsSet, IsSettled, IsTaken, kid_walkers, next_standings, rank_order, room_in}
use Rattle.pass_order.proofs.Attempting.{begun_again}
use Rattle.pass_order.proofs.Joining.{going_or_gone}
use Rattle.pass_order.proofs.Rooming.{few_walkers}
use Rattle.pass_order.proofs.Meeting.{length_set, of_set}
use Rattle.pass_order.proofs.Placing.{at_permuted, contains_left}

-- at most one stands for it again
pub next_few : {J : Type 0} (w : Walker J) (answer : Turn) (s : Standing) (place : ℕ) → length (next_standings w answer s place) ≤ 1
next_few (walker.Living l) answer s place = omega arith
next_few (walker.Ended e) answer s place = omega arith
next_few (walker.Left l) answer s place = omega arith
next_few walker.Gone answer s place = omega arith

module _ {J : Type 0} (session : Session) (trace : List Line) (s : Standing) (queue : Queue J) (taken : IsTaken session trace s queue) where
  pub its_living : (l : Living J) × (slice_get queue.walkers.items s.place ≡ Some (walker.Living l))
  its_living =
      let late = queue.late.items in
      let due = heap_items queue.due in
      let r = taken.queued.ranked s (contains_left (s ∷ due) late s (contains_left (s ∷ []) due s (contains (s ∷ []) s (inl refl)))) in
      (r.living, r.stands)

  pub its_place : s.place < length queue.walkers.items
  its_place = let (l, at) = its_living in slice_get_within queue.walkers.items s.place (walker.Living l) at

  pub last_place : queue.last < length queue.walkers.items
  last_place = let (w, at, is) = taken.queued.last_at in slice_get_within queue.walkers.items queue.last w at

  pub living_so : (l : Living J) → slice_get queue.walkers.items s.place ≡ Some (walker.Living l) → IsLivingOf session trace l
  living_so l at = taken.queued.going s.place (walker.Living l) at

  pub last_going : (z : Walker J) → slice_get (slice_set queue.walkers.items s.place walker.Gone) queue.last ≡ Some z → IsGoingOrGone session trace z
  last_going z at = elim (of_set queue.walkers.items s.place queue.last walker.Gone z at) [
    | inl here ↦ subst (λ z. IsGoingOrGone session trace z) here.1 (tt {0})
    | inr other ↦ going_or_gone session trace z (taken.queued.going queue.last z other.1)
  ]

-- The least rank comes first

not_below : (a b : ℕ) → is_lt (nat_cmp a b) ≡ false → b ≤ a
not_below a b is = elim (cases_lt a b) [
  | inl less ↦ absurd (let z : true ≡ false = sym (ap (λ t. is_lt (cond t Less (cond (a == b) Equal Greater))) (lt-ltb a b less)) ∙ is in cc)
  | inr le ↦ le
]

module _ {J : Type 0} (session : Session) (trace : List Line) (queue : Queue J) (set : IsSet session trace queue) (s : Standing) (due : BinaryHeap Standing Global) (perm : IsPermutation (heap_items queue.due) (s ∷ heap_items due))
    (pops : IsHeap rank_order (heap_items queue.due) → IsHeap rank_order (heap_items due) × IsUpperBound rank_order s (heap_items due)) (count : heap_len due + 1 ≡ heap_len queue.due)
    (room : heap_capacity due ≡ heap_capacity queue.due) where
  both : IsPermutation (heap_items queue.due ++ queue.late.items) ((s ∷ heap_items due) ++ queue.late.items)
  both = IsPermutation-append_left queue.late.items (heap_items queue.due) (s ∷ heap_items due) perm

  pub popped : IsTaken session trace s (record queue { due = due })
  popped = record {
    upto = set.upto;
    tries = set.tries;
    queued = record {
      going = set.queued.going;
      run = set.queued.run;
      last_at = set.queued.last_at;
      counted = λ place. at_permuted place (heap_items queue.due ++ queue.late.items) ((s ∷ heap_items due) ++ queue.late.items) both ∙ set.queued.counted place;
      ranked = λ u h. set.queued.ranked u (Contains-permutation ((s ∷ heap_items due) ++ queue.late.items) (heap_items queue.due ++ queue.late.items) u
          (IsPermutation-sym (heap_items queue.due ++ queue.late.items) ((s ∷ heap_items due) ++ queue.late.items) both) h);
      waiting = set.queued.waiting;
      tried = set.queued.tried;
      rested = set.queued.rested;
    };
    least = λ u h. not_below u.rank s.rank (each_contained (λ (u : Standing). is_lt (rank_order s u) ≡ false) (heap_items due) (pops set.heap).1 u h);
    heap = (pops set.heap).0;
    walkers = set.roomy.walkers;
    due = (let a = set.roomy.due in omega (arith, a, room));
    late = set.roomy.late;
    few = (let a = set.roomy.few in omega (arith, a, count));
  }

-- nothing was due
pub unpopped : {J : Type 0} (session : Session) (trace : List Line) (queue : Queue J) → IsSet session trace queue → (due : BinaryHeap Standing Global) → heap_items due ≡ heap_items queue.due → heap_len due ≡ heap_len queue.due
    → heap_capacity due ≡ heap_capacity queue.due → length (heap_items queue.due) ≡ 0 → IsSet session trace (record queue { due = due }) × (heap_items due ≡ [])
unpopped session trace queue set due items count room none = (
  record {
    upto = set.upto;
    tries = set.tries;
    queued = subst (λ xs. IsQueue session trace queue.walkers.items xs queue.late.items queue.last set.upto set.tries) (sym items) set.queued;
    heap = subst (λ xs. IsHeap rank_order xs) (sym items) set.heap;
    roomy = record {
      walkers = set.roomy.walkers;
      due = (let a = set.roomy.due in omega (arith, a, room));
      late = set.roomy.late;
      few = (let a = set.roomy.few in omega (arith, a, count));
    };
  },
  items ∙ nil_of (heap_items queue.due) none,
)

-- The room for what comes of a try

module _ {J : Type 0} (session : Session) (trace : List Line) (s : Standing) (queue : Queue J) (taken : IsTaken session trace s queue) (before : Queue J) (same_walkers : length before.walkers.items ≡ length queue.walkers.items)
    (same_room : vec_capacity before.walkers ≡ vec_capacity queue.walkers) (same_due : before.due ≡ queue.due) (same_late : before.late ≡ queue.late) (w : Went J) (place : ℕ)
    (fits : length queue.walkers.items + length (kid_walkers w.kid) ≤ room_in trace queue.walkers.items) where
  late_is : vec_len before.late ≡ vec_len queue.late
  late_is = ap (λ (v : Vec Standing Global). vec_len v) same_late

  late_room : vec_capacity before.late ≡ vec_capacity queue.late
  late_room = ap (λ (v : Vec Standing Global). vec_capacity v) same_late

  due_is : heap_len before.due ≡ heap_len queue.due
  due_is = ap (λ (h : BinaryHeap Standing Global). heap_len h) same_due

  due_room : heap_capacity before.due ≡ heap_capacity queue.due
  due_room = ap (λ (h : BinaryHeap Standing Global). heap_capacity h) same_due

  pub fits_late : vec_len before.late + length (next_standings w.walker w.answer s place) ≤ vec_capacity before.late
  fits_late =
      let a = late_is in let b = late_room in let c = next_few w.walker w.answer s place in let d = taken.few in let e = few_walkers trace queue.walkers.items in let f = taken.late in omega (arith, a, b, c, d, e, f)

  pub fits_walkers : vec_len before.walkers ≡ length before.walkers.items → vec_len before.walkers + length (kid_walkers w.kid) ≤ vec_capacity before.walkers
  fits_walkers len = let a = same_walkers in let b = same_room in let c = fits in let d = taken.walkers in omega (arith, len, a, b, c, d)

  pub fits_due : heap_len before.due + length (kid_walkers w.kid) ≤ heap_capacity before.due
  fits_due = let a = due_is in let b = due_room in let c = taken.few in let d = taken.due in let e = fits in omega (arith, a, b, c, d, e)

  -- the queue behind it
  module _ (now : Queue J) (settled : IsSettled s place w before now) (fewer : room_in trace now.walkers.items ≤ room_in trace queue.walkers.items) where
    size : length now.walkers.items ≡ length queue.walkers.items + length (kid_walkers w.kid)
    size =
        let a = ap (λ (ws : List (Walker J)). length ws) settled.walkers in
        let b = length-append (slice_set before.walkers.items s.place w.walker) (kid_walkers w.kid) in
        let c = length_set before.walkers.items s.place w.walker in
        let d = same_walkers in
        omega (arith, a, b, c, d)

    pub roomy_now : IsRoomy trace now
    roomy_now = record {
      walkers = (let a = same_room in let b = settled.room.0 in let c = taken.walkers in omega (arith, a, b, c, fewer));
      due = (let a = due_room in let b = settled.room.1 in let c = taken.due in omega (arith, a, b, c, fewer));
      late = (let a = late_room in let b = settled.room.2 in let c = taken.late in omega (arith, a, b, c, fewer));
      few = (let a = settled.count in let b = due_is in let c = late_is in let d = taken.few in let e = next_few w.walker w.answer s place in let f = size in omega (arith, a, b, c, d, e, f));
    }

-- all that waited are due
module _ {J : Type 0} (trace : List Line) (old new : Queue J) (roomy : IsRoomy trace old) (again : HasBegunAgain old new) where
  same_in : room_in trace new.walkers.items ≡ room_in trace old.walkers.items
  same_in = ap (λ (ws : List (Walker J)). room_in trace ws) again.walkers.0

  pub room_again : heap_len old.due + vec_len old.late ≤ heap_capacity old.due
  room_again = let a = roomy.few in let b = few_walkers trace old.walkers.items in let c = roomy.due in omega (arith, a, b, c)

  pub roomy_again : IsRoomy trace new
  roomy_again = record {
    walkers = (let a = same_in in let b = again.walkers.1 in let c = roomy.walkers in omega (arith, a, b, c));
    due = (let a = same_in in let b = again.room.0 in let c = roomy.due in omega (arith, a, b, c));
    late = (let a = same_in in let b = again.room.1 in let c = roomy.late in omega (arith, a, b, c));
    few = (let a = again.count in let b = again.late.1 in let c = roomy.few in let d = ap (λ (ws : List (Walker J)). length ws) again.walkers.0 in omega (arith, a, b, c, d));
  }

  pub set_again : (session : Session) (upto : List Entry) (tries : List Try) → IsQueue session trace old.walkers.items (heap_items old.due) old.late.items old.last upto tries → IsHeap rank_order (heap_items old.due) → IsSet session trace new
  set_again session upto tries queued heap = record {
    upto = upto;
    tries = tries;
    queued = subst (λ (x : List (Walker J) × List Standing × ℕ). IsQueue session trace x.0 (heap_items new.due) x.1 x.2 upto tries) (λ i. (sym again.walkers.0 i, sym again.late.0 i, sym again.last i))
        (begun_again session trace old.walkers.items (heap_items old.due) old.late.items (heap_items new.due) old.last upto tries queued again.due);
    heap = again.heap heap;
    roomy = roomy_again;
  }
