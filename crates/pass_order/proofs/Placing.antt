-- Where the processes stand.
use Rattle.std.proofs.Common.{◌≡◌, ◌≢◌, ◌<◌, ◌≤◌, ◌+◌, ℕ, zero, suc, List, [], ◌∷◌, ◌++◌, length, refl, ap, sym, ◌∙◌, subst, arith, inl, inr, Bool, true, false, ◌==◌, cond, IsPermutation, append_assoc, length-append}
use Rattle.std.specs.Prelude.{Option, Some, None, Contains, slice_get, slice_set}
use Rattle.std.specs.Option.{option_map_or}
pub use Rattle.std.proofs.lemmas.List.Elements.{Contains-append_cases as contains_both, Contains-append_left as contains_left, Contains-append_right as contains_right}
use Rattle.std.proofs.lemmas.List.Sorted.{IsPermutation-append_left, IsPermutation-to_front, IsPermutation-trans, sum_by-IsPermutation}
use Rattle.std.proofs.lemmas.List.Sums.{sum_by-append, sum_by-cons}
use Rattle.pass_entry.proofs.Lists.{alike, same_numbers}
use Rattle.pass_plain.proofs.Lists.{is_place}
use Rattle.pass_walk.specs.declared.walker.Living.{Living}
use Rattle.pass_walk.specs.declared.walker.Walker.{Walker}
use Rattle.pass_walk.specs.declared.walker.Walker.TheVariants as walker
use Rattle.pass_walk.proofs.Among.{Among, among, contains}
use Rattle.pass_order.specs.declared.standing.Standing.{Standing}
use Rattle.pass_order.specs.Queues.{count_living, kid_walkers, lives_at, standing_at}
use Rattle.pass_order.proofs.Meeting.{length_set}
use Rattle.pass_order.proofs.Turned.{here_settled, kid_settled, on_settled}

-- Elements

pub contains_only : {X : Type 0} (y x : X) → Contains (y ∷ []) x → y ≡ x
contains_only y x h = elim (among (y ∷ []) x h) [ inl same ↦ same | inr none ↦ absurd none ]

pub contains_nil : {X : Type 0} (x : X) → Contains [] x → ⊥
contains_nil x h = among [] x h

-- How many stand at a place

abbrev pub one_at : ℕ → Standing → ℕ
one_at place s = cond (s.place == place) 1 0

pub at_append : (place : ℕ) (xs ys : List Standing) → standing_at place (xs ++ ys) ≡ standing_at place xs + standing_at place ys
at_append place xs ys = sum_by-append (λ s. one_at place s) xs ys

pub at_cons : (place : ℕ) (s : Standing) (xs : List Standing) → standing_at place (s ∷ xs) ≡ one_at place s + standing_at place xs
at_cons place s xs = sum_by-cons (λ s. one_at place s) s xs

pub at_permuted : (place : ℕ) (xs ys : List Standing) → IsPermutation xs ys → standing_at place ys ≡ standing_at place xs
at_permuted place xs ys perm = sum_by-IsPermutation (λ s. one_at place s) xs ys perm

-- one of them stands there
pub some_at : (place : ℕ) (xs : List Standing) → 1 ≤ standing_at place xs → (s : Standing) × Contains xs s × (s.place ≡ place)
some_at place [] some = absurd (omega (arith, some))
some_at place (s ∷ xs) some = by_test (λ rest. some_at place xs rest) (s.place == place) refl
  where
    by_test : (1 ≤ standing_at place xs → (u : Standing) × Contains xs u × (u.place ≡ place)) → (b : Bool) → (s.place == place) ≡ b → (u : Standing) × Contains (s ∷ xs) u × (u.place ≡ place)
    by_test later true t = (s, contains (s ∷ xs) s (inl refl), same_numbers s.place place t)
    by_test later false t =
        let z = at_cons place s xs ∙ ap (λ b. cond b 1 0 + standing_at place xs) t in
        let (u, h, is) = later (omega (arith, some, z)) in
        (u, contains (s ∷ xs) u (inr (among xs u h)), is)

-- and one that is among them is counted
pub counts_at : (xs : List Standing) (s : Standing) → Contains xs s → 1 ≤ standing_at s.place xs
counts_at xs s h = from xs (among xs s h)
  where
    from : (xs : List Standing) → Among s xs → 1 ≤ standing_at s.place xs
    from [] h = absurd h
    from (u ∷ xs) (inl same) = (let z = at_cons s.place u xs in let y = ap {B = ℕ} (λ b. cond b 1 0) (alike u.place s.place (ap (λ (s : Standing). s.place) same)) in omega (arith, z, y))
    from (u ∷ xs) (inr rest) = (let z = at_cons s.place u xs in let y = from xs rest in omega (arith, z, y))

-- What lives where

pub living_there : {J : Type 0} (ws : List (Walker J)) (i : ℕ) (w : Walker J) → slice_get ws i ≡ Some w → lives_at ws i ≡ count_living w
living_there ws i w at = ap (λ (o : Option (Walker _)). option_map_or (λ w. count_living w) o 0) at

pub none_there : {J : Type 0} (ws : List (Walker J)) (i : ℕ) → length ws ≤ i → lives_at ws i ≡ 0
none_there [] i past = refl
none_there (w ∷ ws) zero past = absurd (omega (arith, past))
none_there (w ∷ ws) (suc i) past = none_there ws i (omega (arith, past))

abbrev pub count_kid : {J : Type 0} → Option (Living J) → ℕ
count_kid (Some k) = 1
count_kid None = 0

module _ {J : Type 0} (ws : List (Walker J)) (p : ℕ) (now : Walker J) (kid : Option (Living J)) (inside : p < length ws) where
  abbrev pub after : List (Walker J)
  after = slice_set ws p now ++ kid_walkers kid

  pub lives_here : lives_at after p ≡ count_living now
  lives_here = living_there after p now (here_settled ws p now kid inside)

  pub lives_other : (i : ℕ) → i ≢ p → i < length ws → lives_at after i ≡ lives_at ws i
  lives_other i apart within =
      let (w, at) = is_place ws i within in
      living_there after i w (on_settled ws p now kid i w apart at) ∙ sym (living_there ws i w at)

  pub lives_new : lives_at after (length ws) ≡ count_kid kid
  lives_new = by_kid kid refl
    where
      by_kid : (o : Option (Living J)) → kid ≡ o → lives_at after (length ws) ≡ count_kid o
      by_kid (Some k) is = living_there after (length ws) (walker.Living k) (kid_settled ws p now kid k is)
      by_kid None is = none_there after (length ws) (let z = size is in omega (arith, z))
        where
          size : kid ≡ None → length after ≡ length ws
          size is =
              ap (λ (o : Option (Living J)). length (slice_set ws p now ++ kid_walkers o)) is ∙ length-append (slice_set ws p now) [] ∙ (let z = length_set ws p now in let y : length (slice_set ws p now) + 0 ≡ length ws = omega (arith, z) in y)

  pub lives_past : (i : ℕ) → length ws < i → lives_at after i ≡ 0
  lives_past i past =
      none_there after i (let a = length-append (slice_set ws p now) (kid_walkers kid) in let b = length_set ws p now in let c = few kid in omega (arith, a, b, c, past))
    where
      few : (o : Option (Living J)) → length (kid_walkers o) ≤ 1
      few (Some k) = omega arith
      few None = omega arith

-- The order of the standings

-- the last one of those that wait is due
pub moves_due : (all due late rest next : List Standing) (s : Standing) → IsPermutation all (due ++ late) → late ≡ rest ++ s ∷ [] → IsPermutation (s ∷ due) next → IsPermutation all (next ++ rest)
moves_due all due late rest next s before late_is stood =
    IsPermutation-trans all (due ++ late) (next ++ rest) before
    (subst (λ xs. IsPermutation xs (next ++ rest)) (append_assoc due rest (s ∷ []) ∙ ap (λ l. due ++ l) (sym late_is))
    (IsPermutation-trans ((due ++ rest) ++ s ∷ []) (s ∷ (due ++ rest)) (next ++ rest) (IsPermutation-to_front (due ++ rest) s) (IsPermutation-append_left rest (s ∷ due) next stood)))
