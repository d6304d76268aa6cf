-- The try of a call, step by step.
use Rattle.std.proofs.Common.{◌≡◌, ◌≢◌, ◌<◌, ◌≤◌, ◌+◌, ℕ, List, [], length, ap, sym, ◌∙◌, subst, arith, get_or}
use Rattle.std.specs.BinaryHeap.{heap_capacity, heap_len}
use Rattle.std.specs.Prelude.{Some, slice_get, slice_set, vec_capacity, vec_len}
use Rattle.std.proofs.lemmas.Option.{slice_get-get_or}
use Rattle.pass_plain.specs.Sessions.{Session}
use Rattle.pass_plain.specs.Traces.{Line}
use Rattle.pass_replay.specs.Lines.{AreLinesBehind}
use Rattle.pass_walk.specs.declared.ends.Cause.{Cause}
use Rattle.pass_walk.specs.declared.walker.Living.{Living}
use Rattle.pass_walk.specs.declared.walker.Walker.{Walker}
use Rattle.pass_walk.specs.declared.walker.Walker.TheVariants as walker
use Rattle.pass_walk.specs.declared.walker.Went.{Went}
use Rattle.pass_walk.specs.Walkers.{HasWent, IsLivingOf}
use Rattle.pass_order.specs.declared.queue.Queue.{Queue}
use Rattle.pass_order.specs.declared.queue.Tried.{Tried}
use Rattle.pass_order.specs.declared.queue.Tried.TheVariants as tries_to
use Rattle.pass_order.specs.declared.standing.Standing.{Standing}
use Rattle.pass_order.specs.Queues.{HasBegunAgain, HasJoined, IsAfterTry, IsGoingOrGone, IsSet, IsSettled, IsTaken, kid_walkers, next_standings, place_of, room_in, tried_of}
use Rattle.pass_order.proofs.Meeting.{length_set}
use Rattle.pass_order.proofs.Outcomes.{due_fits, fewer, late_fits, made_so, place_within, roomy, stays_so, walkers_fit}
use Rattle.pass_order.proofs.Rooming.{few_walkers}
use Rattle.pass_order.proofs.Taking.{its_place, last_going, last_place}

module _ {J : Type 0} (session : Session) (places : ℕ) (trace : List Line) (s : Standing) (queue : Queue J) (taken : IsTaken session trace s queue) (left : Queue J)
    (gone : left.walkers.items ≡ slice_set queue.walkers.items s.place walker.Gone) (rest : (left.due ≡ queue.due) × (left.late ≡ queue.late) × (left.last ≡ queue.last)) (room : vec_capacity left.walkers ≡ vec_capacity queue.walkers) where
  -- the one that was tried last has a place there
  pub last_within : left.last < length left.walkers.items
  last_within =
      let a = last_place session trace s queue taken in
      let b = length_set queue.walkers.items s.place walker.Gone in
      let c = ap (λ (ws : List (Walker J)). length ws) gone in
      let d = rest.2 in
      omega (arith, a, b, c, d)

  module _ (z : Walker J) (z_is : z ≡ get_or left.walkers.items left.last z) where
    pub last_at : slice_get (slice_set queue.walkers.items s.place walker.Gone) queue.last ≡ Some z
    last_at =
        let a = last_within in
        let b = ap (λ (ws : List (Walker J)). length ws) gone in
        let c = rest.2 in
        slice_get-get_or (slice_set queue.walkers.items s.place walker.Gone) queue.last z (omega (arith, a, b, c))
        ∙ ap (λ (w : Walker J). Some w) (sym (z_is ∙ (λ i. get_or (gone i) (rest.2 i) z)))

    pub last_goes : IsGoingOrGone session trace z
    last_goes = last_going session trace s queue taken z last_at

    module _ (ordered : AreLinesBehind [] trace) (l m : Living J) (y : Walker J) (at : slice_get queue.walkers.items s.place ≡ Some (walker.Living l)) (joined : HasJoined session trace l z m y) (w : Went J)
        (went : HasWent session places trace m w) (before : Queue J) (walkers : before.walkers.items ≡ slice_set left.walkers.items left.last y) (capacity : vec_capacity before.walkers ≡ vec_capacity left.walkers)
        (due : before.due ≡ left.due) (late : before.late ≡ left.late) (last : before.last ≡ s.place) where
      walkers_are : before.walkers.items ≡ slice_set (slice_set queue.walkers.items s.place walker.Gone) queue.last y
      walkers_are = walkers ∙ (λ i. slice_set (gone i) (rest.2 i) y)

      pub place_ok : s.place < length before.walkers.items
      place_ok =
          place_within session places trace ordered s queue taken l m z y at last_at joined w went before walkers_are (capacity ∙ room) (due ∙ rest.0) (late ∙ rest.1) (its_place session trace s queue taken)

      pub late_ok : vec_len before.late + length (next_standings w.walker w.answer s (place_of m.line)) ≤ vec_capacity before.late
      late_ok = late_fits session places trace ordered s queue taken l m z y at last_at joined w went before walkers_are (capacity ∙ room) (due ∙ rest.0) (late ∙ rest.1)

      pub walkers_ok : vec_len before.walkers ≡ length before.walkers.items → vec_len before.walkers + length (kid_walkers w.kid) ≤ vec_capacity before.walkers
      walkers_ok = walkers_fit session places trace ordered s queue taken l m z y at last_at joined w went before walkers_are (capacity ∙ room) (due ∙ rest.0) (late ∙ rest.1)

      pub due_ok : heap_len before.due + length (kid_walkers w.kid) ≤ heap_capacity before.due
      due_ok = due_fits session places trace ordered s queue taken l m z y at last_at joined w went before walkers_are (capacity ∙ room) (due ∙ rest.0) (late ∙ rest.1)

      module _ (now : Queue J) (settled : IsSettled s (place_of m.line) w before now) where
        pub room_ok : room_in trace now.walkers.items ≤ room_in trace queue.walkers.items
        room_ok = fewer session places trace ordered s queue taken l m z y at last_at joined w went before walkers_are (capacity ∙ room) (due ∙ rest.0) (late ∙ rest.1) last now settled

        pub again_ok : heap_len now.due + vec_len now.late ≤ heap_capacity now.due
        again_ok =
            let a = roomy session places trace ordered s queue taken l m z y at last_at joined w went before walkers_are (capacity ∙ room) (due ∙ rest.0) (late ∙ rest.1) last now settled in
            let b = few_walkers trace now.walkers.items in
            let c = a.few in
            let d = a.due in
            omega (arith, b, c, d)

        module _ (t : Tried) (t_is : t ≡ tried_of w.walker w.answer (length m.proc.seen)) where
          pub stays_ok : t ≢ tries_to.Made → IsAfterTry session places trace t now
          stays_ok other = stays_so session places trace ordered s queue taken l m z y at last_at joined w went before walkers_are (capacity ∙ room) (due ∙ rest.0) (late ∙ rest.1) last now settled t t_is other

          module _ (made : t ≡ tries_to.Made) (later : Queue J) (again : HasBegunAgain now later) where
            pub made_ok : IsSet session trace later
            made_ok =
                made_so session places trace ordered s queue taken l m z y at last_at joined w went before walkers_are (capacity ∙ room) (due ∙ rest.0) (late ∙ rest.1) last now settled
                (λ cause failed. never cause (sym made ∙ t_is ∙ failed)) later again
              where
                never : (cause : Cause) → ◌≡◌ {A = Tried} tries_to.Made (tries_to.Failed cause) → ⊥
                never cause e = cc

            pub made_room : room_in trace later.walkers.items ≤ room_in trace queue.walkers.items
            made_room = let a = room_ok in let b = ap (λ (ws : List (Walker J)). room_in trace ws) again.walkers.0 in omega (arith, a, b)

-- it lives still
pub joined_lives : {J : Type 0} (session : Session) (trace : List Line) (l m : Living J) (z y : Walker J) → HasJoined session trace l z m y → IsLivingOf session trace l → IsLivingOf session trace m
joined_lives session trace l m (walker.Living o) y (p, is, on, its, seen) lives = on.living
joined_lives session trace l m (walker.Ended e) y (f, is, on, more, seen) lives = on.living
joined_lives session trace l m (walker.Left x) y none lives = absurd none
joined_lives session trace l m walker.Gone y (is, same) lives = subst (λ l. IsLivingOf session trace l) (sym same) lives
