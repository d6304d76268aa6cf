-- What a try leaves of the queue.
use Rattle.std.proofs.Common.{◌≡◌, ◌≢◌, ◌<◌, ◌≤◌, ◌+◌, ℕ, List, [], ◌∷◌, ◌++◌, length, refl, ap, sym, ◌∙◌, subst, arith, Bool, true, false, ◌==◌, Global, Vec, IsPermutation}
use Rattle.std.specs.BinaryHeap.{IsHeap, heap_capacity, heap_items, heap_len}
use Rattle.std.specs.declared.collections.BinaryHeap.{BinaryHeap}
use Rattle.std.specs.Prelude.{Some, slice_get, slice_set, vec_capacity, vec_len}
use Rattle.pass_plain.specs.Sessions.{Session}
use Rattle.pass_plain.specs.Traces.{Line}
use Rattle.pass_replay.specs.Lines.{AreLinesBehind}
use Rattle.pass_sched.specs.declared.task.Turn.{Turn}
use Rattle.pass_sched.specs.declared.task.Turn.TheVariants as turn
use Rattle.pass_walk.specs.declared.ends.Cause.{Cause}
use Rattle.pass_walk.specs.declared.walker.Living.{Living}
use Rattle.pass_walk.specs.declared.walker.Walker.{Walker}
use Rattle.pass_walk.specs.declared.walker.Walker.TheVariants as walker
use Rattle.pass_walk.specs.declared.walker.Went.{Went}
use Rattle.pass_walk.specs.Walkers.{HasWent, member_of}
use Rattle.pass_order.specs.declared.queue.Queue.{Queue}
use Rattle.pass_order.specs.declared.queue.Tried.{Tried}
use Rattle.pass_order.specs.declared.queue.Tried.TheVariants as tries_to
use Rattle.pass_order.specs.declared.standing.Standing.{Standing}
use Rattle.pass_order.specs.Queues.{HasBegunAgain, HasJoined, HasLeft, IsAfterTry, IsQueue, IsRoomy, IsSet, IsSettled, IsStopped, IsTaken, kid_standings, kid_walkers, next_standings, place_of, rank_order, room_in, tried_of, waits_if}
use Rattle.pass_order.proofs.Attempting.{again_now, its_try, left_now, stopped_now, waits_now}
use Rattle.pass_order.proofs.Meeting.{AreMore, are_more, length_set, met_here, set_twice, size}
use Rattle.pass_order.proofs.Rooming.{fits_after, room_after}
use Rattle.pass_order.proofs.Taking.{fits_due, fits_late, fits_walkers, roomy_again, roomy_now}

never_nothing : {J : Type 0} (w : Walker J) (answer : Turn) (before : ℕ) → tried_of w answer before ≡ tries_to.Nothing → ⊥
never_nothing (walker.Left l) answer before is = cc
never_nothing (walker.Ended e) answer before is = cc
never_nothing walker.Gone answer before is = cc
never_nothing (walker.Living l) answer before is = by answer (length l.proc.seen == before) is
  where
    by : (answer : Turn) (b : Bool) → waits_if answer b ≡ tries_to.Nothing → ⊥
    by turn.Waiting true is = cc
    by turn.Waiting false is = cc
    by turn.Moved b is = cc
    by turn.Ended b is = cc
    by turn.Failed b is = cc

module _ {J : Type 0} (session : Session) (places : ℕ) (trace : List Line) (ordered : AreLinesBehind [] trace) (s : Standing) (queue : Queue J) (taken : IsTaken session trace s queue) (l m : Living J) (z y : Walker J)
    (at : slice_get queue.walkers.items s.place ≡ Some (walker.Living l)) (last_at : slice_get (slice_set queue.walkers.items s.place walker.Gone) queue.last ≡ Some z) (joined : HasJoined session trace l z m y)
    (w : Went J) (went : HasWent session places trace m w) where
  abbrev ws : List (Walker J)
  ws = queue.walkers.items

  abbrev between : List (Walker J)
  between = slice_set (slice_set ws s.place walker.Gone) queue.last y

  abbrev met : List (Walker J)
  met = slice_set between s.place (walker.Living m)

  more : AreMore session trace ws met
  more = are_more session trace ws taken.queued.going s.place queue.last l m z y at last_at joined

  at_met : slice_get met s.place ≡ Some (walker.Living m)
  at_met = met_here session trace ws taken.queued.going s.place queue.last l m z y at last_at joined

  between_size : length between ≡ length ws
  between_size = size session trace ws taken.queued.going s.place queue.last l m z y at last_at joined

  same_size : length met ≡ length ws
  same_size = length_set between s.place (walker.Living m) ∙ between_size

  pub fits : length ws + length (kid_walkers w.kid) ≤ room_in trace ws
  fits = fits_after session places trace m w went ws met more same_size s.place at_met

  module _ (before : Queue J) (walkers_are : before.walkers.items ≡ between) (same_room : vec_capacity before.walkers ≡ vec_capacity queue.walkers) (same_due : before.due ≡ queue.due) (same_late : before.late ≡ queue.late) where
    before_size : length before.walkers.items ≡ length ws
    before_size = ap (λ (ws : List (Walker J)). length ws) walkers_are ∙ between_size

    pub place_within : s.place < length ws → s.place < length before.walkers.items
    place_within less = let a = before_size in omega (arith, less, a)

    pub late_fits : vec_len before.late + length (next_standings w.walker w.answer s (place_of m.line)) ≤ vec_capacity before.late
    late_fits = fits_late session trace s queue taken before before_size same_room same_due same_late w (place_of m.line) fits

    pub walkers_fit : vec_len before.walkers ≡ length before.walkers.items → vec_len before.walkers + length (kid_walkers w.kid) ≤ vec_capacity before.walkers
    walkers_fit = fits_walkers session trace s queue taken before before_size same_room same_due same_late w (place_of m.line) fits

    pub due_fits : heap_len before.due + length (kid_walkers w.kid) ≤ heap_capacity before.due
    due_fits = fits_due session trace s queue taken before before_size same_room same_due same_late w (place_of m.line) fits

    module _ (last_is : before.last ≡ s.place) (now : Queue J) (settled : IsSettled s (place_of m.line) w before now) where
      now_is : now.walkers.items ≡ slice_set between s.place w.walker ++ kid_walkers w.kid
      now_is = settled.walkers ∙ ap (λ (ws : List (Walker J)). slice_set ws s.place w.walker ++ kid_walkers w.kid) walkers_are

      pub fewer : room_in trace now.walkers.items ≤ room_in trace ws
      fewer =
          let a = room_after session places trace m w went ws met more same_size s.place at_met in
          let b = ap (λ (ws : List (Walker J)). room_in trace ws) (now_is ∙ ap (λ (ws : List (Walker J)). ws ++ kid_walkers w.kid) (sym (set_twice between s.place (walker.Living m) w.walker))) in
          omega (arith, a, b)

      pub roomy : IsRoomy trace now
      roomy = roomy_now session trace s queue taken before before_size same_room same_due same_late w (place_of m.line) fits now settled fewer

      pub failed_so : (cause : Cause) → tried_of w.walker w.answer (length m.proc.seen) ≡ tries_to.Failed cause → IsStopped session places trace now.walkers.items × HasLeft now.walkers.items cause
      failed_so cause is = (
        stopped_now session places trace ordered ws s (heap_items queue.due) queue.late.items queue.last taken.upto taken.tries taken.queued taken.least l m z y at last_at joined w went now.walkers.items now_is,
        left_now session places trace ordered ws s (heap_items queue.due) queue.late.items queue.last taken.upto taken.tries taken.queued taken.least l m z y at last_at joined w went now.walkers.items now_is cause is,
      )

      perm : IsPermutation (kid_standings w.kid (length between) (place_of m.line) ++ heap_items queue.due) (heap_items now.due)
      perm = subst (λ (xs : List Standing). IsPermutation xs (heap_items now.due))
          (λ i. kid_standings w.kid (ap (λ (ws : List (Walker J)). length ws) walkers_are i) (place_of m.line) ++ heap_items (same_due i)) settled.due

      late_is : now.late.items ≡ queue.late.items ++ next_standings w.walker w.answer s (place_of m.line)
      late_is = settled.late ∙ ap (λ (v : Vec Standing Global). v.items ++ next_standings w.walker w.answer s (place_of m.line)) same_late

      heap : IsHeap rank_order (heap_items now.due)
      heap = settled.heap (subst (λ (h : BinaryHeap Standing Global). IsHeap rank_order (heap_items h)) (sym same_due) taken.heap)

      pub waits_so : tried_of w.walker w.answer (length m.proc.seen) ≡ tries_to.Waits → IsSet session trace now
      waits_so is = record {
        upto = (member_of w.walker).seen;
        tries = taken.tries ++ its_try session places trace ordered ws s (heap_items queue.due) queue.late.items queue.last taken.upto taken.tries taken.queued taken.least l m z y at last_at joined w went ∷ [];
        queued = subst (λ n. IsQueue session trace now.walkers.items (heap_items now.due) now.late.items n (member_of w.walker).seen
            (taken.tries ++ its_try session places trace ordered ws s (heap_items queue.due) queue.late.items queue.last taken.upto taken.tries taken.queued taken.least l m z y at last_at joined w went ∷ [])) (sym (settled.last ∙ last_is))
            (waits_now session places trace ordered ws s (heap_items queue.due) queue.late.items queue.last taken.upto taken.tries taken.queued taken.least l m z y at last_at joined w went now.walkers.items now_is
            (heap_items now.due) now.late.items perm late_is is);
        heap = heap;
        roomy = roomy;
      }

      pub made_so : ((cause : Cause) → tried_of w.walker w.answer (length m.proc.seen) ≢ tries_to.Failed cause) → (later : Queue J) → HasBegunAgain now later → IsSet session trace later
      made_so never later again = record {
        upto = (member_of w.walker).seen;
        tries = taken.tries ++ its_try session places trace ordered ws s (heap_items queue.due) queue.late.items queue.last taken.upto taken.tries taken.queued taken.least l m z y at last_at joined w went ∷ [];
        queued = subst (λ (x : List (Walker J) × List Standing × ℕ). IsQueue session trace x.0 (heap_items later.due) x.1 x.2 (member_of w.walker).seen
            (taken.tries ++ its_try session places trace ordered ws s (heap_items queue.due) queue.late.items queue.last taken.upto taken.tries taken.queued taken.least l m z y at last_at joined w went ∷ []))
            (λ i. (sym again.walkers.0 i, sym again.late.0 i, sym (again.last ∙ settled.last ∙ last_is) i))
            (again_now session places trace ordered ws s (heap_items queue.due) queue.late.items queue.last taken.upto taken.tries taken.queued taken.least l m z y at last_at joined w went now.walkers.items now_is
            (heap_items now.due) now.late.items perm late_is never (heap_items later.due) again.due);
        heap = again.heap heap;
        roomy = roomy_again trace now later roomy again;
      }

      -- the answer, but where all are tried again
      pub stays_so : (t : Tried) → t ≡ tried_of w.walker w.answer (length m.proc.seen) → t ≢ tries_to.Made → IsAfterTry session places trace t now
      stays_so (tries_to.Failed cause) is other = failed_so cause (sym is)
      stays_so tries_to.Waits is other = waits_so (sym is)
      stays_so tries_to.Made is other = absurd (other refl)
      stays_so tries_to.Nothing is other = absurd (never_nothing w.walker w.answer (length m.proc.seen) (sym is))
