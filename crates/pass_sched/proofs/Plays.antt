-- What turns in a row do to a task.
use Rattle.std.proofs.Common.{◌≡◌, ◌≢◌, ℕ, ◌+◌, ◌≤◌, ◌<◌, ◌⊎◌, inl, inr, List, [], ◌∷◌, ◌++◌, length, refl, sym, ap, ◌∙◌, subst, arith, All, sum_by, Some}
use Rattle.std.proofs.lemmas.List.Sums.{sum_by-append, sum_by-cons}
use Rattle.std.proofs.lemmas.List.Elements.{All-append, All-head, All-tail, All-nil}
use Rattle.pass_sched.specs.declared.task.Task.{Ghosts}
use Rattle.pass_sched.specs.declared.task.Turn.{Turn}
use Rattle.pass_sched.specs.declared.task.Turn.TheVariants.{Moved, Waiting, Ended, Failed}
use Rattle.pass_sched.specs.Turns.{Rises}
use Rattle.pass_sched.specs.Passes.{Moves, start, more, Takes, RunsOut, IsRun}

-- of living children there are no more than steps of theirs
pub few : {X : Type 0} (left : X → ℕ) (kids : List X) → All (λ kid. 0 < left kid) kids → length kids ≤ sum_by left kids
few left [] h = omega arith
few left (k ∷ ks) h = omega (arith, sum_by-cons left k ks, All-head (λ kid. 0 < left kid) k ks h, few left ks (All-tail (λ kid. 0 < left kid) k ks h))

-- counts that rise twice rise
pub rises_again : (a b c : ℕ) → Rises a b → Rises b c → Rises a c
rises_again a b c (inl x) (inl y) = inl (omega arith)
rises_again a b c (inl x) (inr y) = inl (omega arith)
rises_again a b c (inr x) (inl y) = inl (omega arith)
rises_again a b c (inr x) (inr y) = inr (x.0, y.1)

module _ {X : Type 0} (t : Ghosts X) where
  -- a turn keeps the room for the children that are still to come
  pub room_stays : (before : X) (kids : List X) (answer : Turn) (after : X) → Takes t before kids answer after → length kids + t.left after ≤ t.left before
  room_stays before kids Moved after h = omega (arith, h.0.falls, few t.left kids h.0.kids_live)
  room_stays before kids Waiting after h = omega (arith, h.0.falls, ap length (h.0.born_by_moves (λ e. cc)))
  room_stays before kids Ended after h = omega (arith, h.0.falls, ap length (h.0.born_by_moves (λ e. cc)))
  room_stays before kids Failed after h = omega (arith, h.0.falls, ap length (h.0.born_by_moves (λ e. cc)))

  -- what turns that moved come to
  pub record Sums (before : X) (kids : List X) (after : X) : Type 0 where
    pub same_order : t.order after ≡ t.order before
    pub rises : (t.turns after ≡ t.turns before) ⊎ Rises (t.turns before) (t.turns after)
    pub falls : ((t.left after ≡ t.left before) × (kids ≡ [])) ⊎ (t.left after + sum_by t.left kids < t.left before)
    pub kids_live : All (λ kid. 0 < t.left kid) kids

  rises_on : (a b c : ℕ) → (b ≡ a) ⊎ Rises a b → Rises b c → Rises a c
  rises_on a b c (inl e) h = subst (λ x. Rises x c) e h
  rises_on a b c (inr r) h = rises_again a b c r h

  falls_on : (a b c : ℕ) (kids born : List X) → ((b ≡ a) × (kids ≡ [])) ⊎ (b + sum_by t.left kids < a) → c + (1 + sum_by t.left born) ≡ b → c + sum_by t.left (kids ++ born) < a
  falls_on a b c kids born (inl e) h = omega (arith, sum_by-append t.left kids born, ap (sum_by t.left) e.1)
  falls_on a b c kids born (inr r) h = omega (arith, sum_by-append t.left kids born)

  pub moves_sum : {before after : X} {kids : List X} → Moves t before kids after → Sums before kids after
  moves_sum start = record { same_order = refl; rises = inl refl; falls = inl (refl, refl); kids_live = All-nil (λ kid. 0 < t.left kid) }
  moves_sum (more {before} {middle} {after} {kids} {born} {both} moves takes is) =
      let so_far = moves_sum moves in
      record {
        same_order = takes.0.same_order ∙ so_far.same_order;
        rises = inr (rises_on _ _ _ so_far.rises takes.0.rises);
        falls = inr (subst (λ (ks : List X). t.left after + sum_by t.left ks < t.left before) (sym is) (falls_on _ _ _ kids born so_far.falls takes.0.falls));
        kids_live = subst (All (λ kid. 0 < t.left kid)) (sym is) (All-append (λ kid. 0 < t.left kid) kids born so_far.kids_live takes.0.kids_live);
      }

  rests : (answer : Turn) (before : X) (after : X) → Takes t before [] answer after → answer ≢ Moved → (t.left after ≡ 0) ⊎ ((t.last after ≡ Some Waiting) ⊎ (t.last after ≡ Some Failed))
  rests Moved before after h other = absurd (other refl)
  rests Waiting before after h other = inr (inl h.0.is_last)
  rests Ended before after h other = inl (omega (arith, h.0.falls, h.0.ends.0 refl))
  rests Failed before after h other = inr (inr h.0.is_last)

  stays : (answer : Turn) (before : X) (after : X) → Takes t before [] answer after → answer ≢ Moved → t.left after ≡ t.left before
  stays Moved before after h other = absurd (other refl)
  stays Waiting before after h other = omega (arith, h.0.falls)
  stays Ended before after h other = omega (arith, h.0.falls)
  stays Failed before after h other = omega (arith, h.0.falls)

  falls_of : (a b c : ℕ) (kids : List X) → c ≡ b → ((b ≡ a) × (kids ≡ [])) ⊎ (b + sum_by t.left kids < a) → c + sum_by t.left kids ≤ a
  falls_of a b c kids same (inl e) = omega (arith, ap (sum_by t.left) e.1)
  falls_of a b c kids same (inr r) = omega arith

  -- the part of a living task in a pass
  pub run_of_living : (before : X) (kids : List X) (after : X) → 0 < t.left before → RunsOut t before kids after → IsRun t (record { before = before; after = after; kids = kids })
  run_of_living before kids after some_left h =
      let sums = moves_sum h.2 in
      record {
        ended = λ none. absurd (omega arith);
        living = λ _. h;
        same_order = h.3.0.same_order ∙ sums.same_order;
        rises = λ _. rises_on _ _ _ sums.rises h.3.0.rises;
        rests = λ _. rests h.1 h.0 after h.3 h.4;
        falls = falls_of _ _ _ kids (stays h.1 h.0 after h.3 h.4) sums.falls;
        kids_live = sums.kids_live;
      }

  -- the part of a task that had ended
  pub run_of_ended : (before : X) → t.left before ≡ 0 → IsRun t (record { before = before; after = before; kids = [] })
  run_of_ended before none =
      record {
        ended = λ _. (refl, refl);
        living = λ some_left. absurd (omega arith);
        same_order = refl;
        rises = λ some_left. absurd (omega arith);
        rests = λ some_left. absurd (omega arith);
        falls = omega arith;
        kids_live = All-nil (λ kid. 0 < t.left kid);
      }
