-- How many processes can come of those that are there.
use Rattle.std.proofs.Common.{◌≡◌, ◌≢◌, ◌<◌, ◌≤◌, ◌+◌, ℕ, suc, List, [], ◌∷◌, ◌++◌, length, refl, ap, sym, ◌∙◌, arith, sum_by, length-append}
use Rattle.std.specs.Prelude.{Option, Some, None, max, slice_get, slice_set}
use Rattle.std.proofs.lemmas.List.Sums.{sum_by-append, sum_by-cons, sum_by-set}
use Rattle.std.proofs.lemmas.Option.{get_or_from_slice_get, slice_get_within}
use Rattle.pass_plain.specs.Sessions.{Session}
use Rattle.pass_plain.specs.Traces.{Line}
use Rattle.pass_plain.proofs.Lists.{some_is}
use Rattle.pass_sched.specs.declared.task.Turn.{Turn}
use Rattle.pass_sched.specs.declared.task.Turn.TheVariants as turn
use Rattle.pass_walk.specs.declared.walker.Living.{Living}
use Rattle.pass_walk.specs.declared.walker.Walker.{Walker}
use Rattle.pass_walk.specs.declared.walker.Walker.TheVariants as walker
use Rattle.pass_walk.specs.declared.walker.Went.{Went}
use Rattle.pass_walk.specs.Lefts.{left_at}
use Rattle.pass_walk.specs.Walkers.{HasWent, kid_left, left_of}
use Rattle.pass_walk.proofs.LeftLemmas.{left_at_some}
use Rattle.pass_order.specs.Queues.{kid_walkers, room_in, room_of}
use Rattle.pass_order.proofs.Meeting.{AreMore, length_set}

sum_alike : {X : Type 0} (f : X → ℕ) (xs ys : List X) → length xs ≡ length ys → ((i : ℕ) (x y : X) → slice_get xs i ≡ Some x → slice_get ys i ≡ Some y → f x ≡ f y) → sum_by f xs ≡ sum_by f ys
sum_alike f [] [] size same = refl
sum_alike f [] (y ∷ ys) size same = absurd (omega (arith, size))
sum_alike f (x ∷ xs) [] size same = absurd (omega (arith, size))
sum_alike f (x ∷ xs) (y ∷ ys) size same =
    (let a = sum_by-cons f x xs in let b = sum_by-cons f y ys in let c = sum_alike f xs ys (omega (arith, size)) (λ i x y at_x at_y. same (suc i) x y at_x at_y) in let d = same 0 x y refl refl in omega (arith, a, b, c, d))

-- no more are there than have room
pub few_walkers : {J : Type 0} (trace : List Line) (ws : List (Walker J)) → length ws ≤ room_in trace ws
few_walkers trace [] = omega arith
few_walkers trace (w ∷ ws) = (let a = sum_by-cons (λ (w : Walker _). room_of trace w) w ws in let b = few_walkers trace ws in omega (arith, a, b))

pub kid_room : {J : Type 0} (trace : List Line) (kid : Option (Living J)) → room_in trace (kid_walkers kid) ≡ kid_left trace kid
kid_room trace None = refl
kid_room {J = J} trace (Some kid) =
    (let a = sum_by-cons (λ (w : Walker J). room_of trace w) (walker.Living kid) [] in let none : room_in {J = J} trace [] ≡ 0 = refl in let b = left_at_some trace kid.process kid.line in omega (arith, a, b, none))

pub kid_count : {J : Type 0} (trace : List Line) (kid : Option (Living J)) → length (kid_walkers kid) ≤ kid_left trace kid
kid_count trace None = omega arith
kid_count trace (Some kid) = (let b = left_at_some trace kid.process kid.line in omega (arith, b))

module _ {J : Type 0} (session : Session) (places : ℕ) (trace : List Line) (m : Living J) (w : Went J) (went : HasWent session places trace m w) where
  -- what comes of a turn has the room of the one that took it
  pub turn_room : room_of trace w.walker + kid_left trace w.kid ≤ left_at trace m.process m.line
  turn_room = by_answer w.answer refl
    where
      some : 1 ≤ left_at trace m.process m.line
      some = left_at_some trace m.process m.line

      stays : w.answer ≢ turn.Moved → room_of trace w.walker + kid_left trace w.kid ≤ left_at trace m.process m.line
      stays not = let (left, none) = went.stayed not in let a = ap (λ o. kid_left trace o) none in let b = some in omega (arith, left, a, b)

      by_answer : (a : Turn) → w.answer ≡ a → room_of trace w.walker + kid_left trace w.kid ≤ left_at trace m.process m.line
      by_answer turn.Moved is = (let a = went.moved is in omega (arith, a))
      by_answer turn.Waiting is = stays (λ h. let z : turn.Waiting ≡ turn.Moved = sym is ∙ h in cc)
      by_answer turn.Ended is = stays (λ h. let z : turn.Ended ≡ turn.Moved = sym is ∙ h in cc)
      by_answer turn.Failed is = stays (λ h. let z : turn.Failed ≡ turn.Moved = sym is ∙ h in cc)

  module _ (ws met : List (Walker J)) (more : AreMore session trace ws met) (same_size : length met ≡ length ws) (p : ℕ) (at : slice_get met p ≡ Some (walker.Living m)) where
    inside : p < length met
    inside = slice_get_within met p (walker.Living m) at

    met_room : room_in trace met ≡ room_in trace ws
    met_room = sum_alike (λ w. room_of trace w) met ws same_size (λ i v u at_v at_u.
        let (x, at_x, is) = more.from i v at_v in
        ap (λ n. max 1 n) (is.left ∙ ap (λ (w : Walker J). left_of trace w) (some_is x u (sym at_x ∙ at_u))))

    parts : room_in trace (slice_set met p w.walker ++ kid_walkers w.kid) ≡ room_in trace (slice_set met p w.walker) + room_in trace (kid_walkers w.kid)
    parts = sum_by-append (λ w. room_of trace w) (slice_set met p w.walker) (kid_walkers w.kid)

    changed : room_in trace (slice_set met p w.walker) + left_at trace m.process m.line ≡ room_in trace met + room_of trace w.walker
    changed =
        let a = sum_by-set (λ w. room_of trace w) met p w.walker walker.Gone inside in
        let b = ap (λ (w : Walker J). room_of trace w) (get_or_from_slice_get met p (walker.Living m) walker.Gone at) in
        let c = left_at_some trace m.process m.line in
        omega (arith, a, b, c)

    pub room_after : room_in trace (slice_set met p w.walker ++ kid_walkers w.kid) ≤ room_in trace ws
    room_after =
        let a = met_room in let b = parts in let c = changed in let d = kid_room trace w.kid in let e = turn_room in omega (arith, a, b, c, d, e)

    -- one more fits
    pub fits_after : length ws + length (kid_walkers w.kid) ≤ room_in trace ws
    fits_after =
        let a = few_walkers trace (slice_set met p w.walker ++ kid_walkers w.kid) in
        let b = length-append (slice_set met p w.walker) (kid_walkers w.kid) in
        let c = length_set met p w.walker in
        let d = room_after in
        let e = same_size in
        omega (arith, a, b, c, d, e)
