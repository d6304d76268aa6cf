-- A pass that goes on.
use Rattle.std.proofs.Common.{◌≡◌, ℕ, ◌+◌, ◌≤◌, ◌<◌, ◌⊎◌, inl, inr, List, [], ◌∷◌, ◌++◌, Bool, false, ◌||◌, length, map, filter, not, All, sum_by, ap, ◌∙◌, sym, subst, append_assoc, append-nil, refl, arith, IsPermutation}
use Rattle.std.specs.List.{flat_map, list_all}
use Rattle.std.proofs.lemmas.List.Sorted.{IsPermutation-refl, IsPermutation-trans, IsPermutation-middle, IsPermutation-append_left, IsPermutation-append_right, IsPermutation-append_comm, IsPermutation-filter_both, sum_by-IsPermutation}
use Rattle.std.proofs.lemmas.List.Sums.{sum_by-append, sum_by-cons}
use Rattle.std.proofs.lemmas.List.Elements.{All-cons, All-nil, All-head, All-tail}
use Rattle.pass_sched.specs.declared.task.Task.{Ghosts}
use Rattle.pass_sched.specs.declared.pass.PassEnd.{PassEnd}
use Rattle.pass_sched.specs.Passes.{Run, IsRun, RunsOut, IsUnderway, IsPass, joining, staying, room_of, has_failed, has_moved, has_ended, end_by, end_of}
use Rattle.pass_sched.proofs.Plays.{few, moves_sum}

module _ {X : Type 0} where
  -- one more run, whose task waited, and whose children wait from now on
  starts : (given joined begun waiting more kids : List X) (x : X) → IsPermutation (given ++ joined) (begun ++ x ∷ waiting) → IsPermutation (waiting ++ kids) more
      → IsPermutation (given ++ (kids ++ joined)) ((x ∷ begun) ++ more)
  starts given joined begun waiting more kids x before waits =
      IsPermutation-trans (given ++ (kids ++ joined)) ((given ++ joined) ++ kids) ((x ∷ begun) ++ more)
      (subst (IsPermutation (given ++ (kids ++ joined))) (sym (append_assoc given joined kids)) (IsPermutation-append_right given (kids ++ joined) (joined ++ kids) (IsPermutation-append_comm kids joined)))
      (IsPermutation-trans ((given ++ joined) ++ kids) ((begun ++ x ∷ waiting) ++ kids) ((x ∷ begun) ++ more)
      (IsPermutation-append_left kids (given ++ joined) (begun ++ x ∷ waiting) before)
      (IsPermutation-trans ((begun ++ x ∷ waiting) ++ kids) ((x ∷ begun) ++ (waiting ++ kids)) ((x ∷ begun) ++ more)
      (subst (λ l. IsPermutation l ((x ∷ begun) ++ (waiting ++ kids))) (sym (append_assoc begun (x ∷ waiting) kids)) (IsPermutation-middle begun x (waiting ++ kids)))
      (IsPermutation-append_right (x ∷ begun) (waiting ++ kids) more waits)))

  -- one more run, after which its task and the other children are through
  ends : (ended stayed answer more kids : List X) (x : X) → IsPermutation (ended ++ stayed) answer → IsPermutation (x ∷ (answer ++ kids)) more
      → IsPermutation ((x ∷ ended) ++ (kids ++ stayed)) more
  ends ended stayed answer more kids x before through =
      IsPermutation-trans ((x ∷ ended) ++ (kids ++ stayed)) ((x ∷ ended) ++ (stayed ++ kids)) more
      (IsPermutation-append_right (x ∷ ended) (kids ++ stayed) (stayed ++ kids) (IsPermutation-append_comm kids stayed))
      (IsPermutation-trans ((x ∷ ended) ++ (stayed ++ kids)) (x ∷ (answer ++ kids)) more
      (subst (λ l. IsPermutation (x ∷ l) (x ∷ (answer ++ kids))) (append_assoc ended stayed kids) (IsPermutation-append_left kids (x ∷ (ended ++ stayed)) (x ∷ answer) (front x (ended ++ stayed) answer before)))
      through)
    where
      front : (y : X) (xs ys : List X) → IsPermutation xs ys → IsPermutation (y ∷ xs) (y ∷ ys)
      front y xs ys h = IsPermutation-append_right (y ∷ []) xs ys h

  -- what a test parts adds up
  parted : (f : X → ℕ) (p : X → Bool) (xs : List X) → sum_by f (filter p xs) + sum_by f (filter (λ x. not (p x)) xs) ≡ sum_by f xs
  parted f p xs = sym (sum_by-append f (filter p xs) (filter (λ x. not (p x)) xs)) ∙ sum_by-IsPermutation f xs (filter p xs ++ filter (λ x. not (p x)) xs) (IsPermutation-filter_both p (λ x. not (p x)) (λ x. refl) xs)

module _ {X : Type 0} (t : Ghosts X) where
  -- living children have as much room as steps
  rooms : (kids : List X) → All (λ kid. 0 < t.left kid) kids → sum_by (room_of t) kids ≡ sum_by t.left kids
  rooms [] live = refl
  rooms (k ∷ ks) live = omega (arith, sum_by-cons (room_of t) k ks, sum_by-cons t.left k ks, All-head (λ kid. 0 < t.left kid) k ks live, rooms ks (All-tail (λ kid. 0 < t.left kid) k ks live))

  -- no list is longer than its room
  pub short : (xs : List X) → length xs ≤ sum_by (room_of t) xs
  short [] = omega arith
  short (x ∷ xs) = omega (arith, sum_by-cons (room_of t) x xs, short xs)

  -- the task and all its children fit the steps that were left
  pub fits : (before : X) (kids : List X) (after : X) → 0 < t.left before → RunsOut t before kids after → 1 + sum_by t.left kids ≤ t.left before
  fits before kids after some_left h = strictly (moves_sum t h.2).falls
    where
      strictly : ((t.left h.0 ≡ t.left before) × (kids ≡ [])) ⊎ (t.left h.0 + sum_by t.left kids < t.left before) → 1 + sum_by t.left kids ≤ t.left before
      strictly (inl e) = omega (arith, ap (sum_by t.left) e.1)
      strictly (inr r) = omega arith

  pub step : (alone : Bool) (given : List X) (runs : List (Run X)) (waiting answer more_waiting more_answer : List X) (failed moved failed_now moved_now : Bool) (r : Run X)
      → IsUnderway t alone given runs (r.before ∷ waiting) answer failed moved
      → IsRun t r
      → IsPermutation (waiting ++ joining t alone r) more_waiting
      → IsPermutation (r.after ∷ (answer ++ staying t alone r)) more_answer
      → failed_now ≡ (has_failed t r || failed)
      → moved_now ≡ (has_moved t r || moved)
      → IsUnderway t alone given (r ∷ runs) more_waiting more_answer failed_now moved_now
  step alone given runs waiting answer more_waiting more_answer failed moved failed_now moved_now r under run waits through fails moves =
      record {
        each_runs = All-cons (IsRun t) r runs run under.each_runs;
        each_once = starts given (flat_map (joining t alone) runs) (map (λ r. r.before) runs) waiting more_waiting (joining t alone r) r.before under.each_once waits;
        none_lost = ends (map (λ r. r.after) runs) (flat_map (staying t alone) runs) answer more_answer (staying t alone r) r.after under.none_lost through;
        failed_is = fails ∙ ap (λ b. has_failed t r || b) under.failed_is;
        moved_is = moves ∙ ap (λ b. has_moved t r || b) under.moved_is;
      }

  -- a task that is through, with the children that stay and those that wait, fits the steps that were left
  pub shares : (p : X → Bool) (before : X) (kids : List X) (after : X) → 0 < t.left before → RunsOut t before kids after
      → 1 + length (filter (λ kid. not (p kid)) kids) + sum_by (room_of t) (filter p kids) ≤ t.left before
  shares p before kids after some_left h =
      omega (arith, fits before kids after some_left h, rooms kids (moves_sum t h.2).kids_live, parted (room_of t) p kids, short (filter (λ kid. not (p kid)) kids))

  pub kids_few : (before : X) (kids : List X) (after : X) → 0 < t.left before → RunsOut t before kids after → 1 + length kids ≤ t.left before
  kids_few before kids after some_left h = omega (arith, fits before kids after some_left h, few t.left kids (moves_sum t h.2).kids_live)

  -- those that wait, in another order
  pub reorder : (alone : Bool) (given : List X) (runs : List (Run X)) (waiting others answer : List X) (failed moved : Bool)
      → IsPermutation waiting others → IsUnderway t alone given runs waiting answer failed moved → IsUnderway t alone given runs others answer failed moved
  reorder alone given runs waiting others answer failed moved moves under =
      record {
        each_runs = under.each_runs;
        each_once = IsPermutation-trans (given ++ flat_map (joining t alone) runs) (map (λ r. r.before) runs ++ waiting) (map (λ r. r.before) runs ++ others) under.each_once
            (IsPermutation-append_right (map (λ r. r.before) runs) waiting others moves);
        none_lost = under.none_lost;
        failed_is = under.failed_is;
        moved_is = under.moved_is;
      }

  -- a pass begins with all given tasks waiting
  pub begins : (alone : Bool) (given waiting : List X) → IsPermutation given waiting → IsUnderway t alone given [] waiting [] false false
  begins alone given waiting moves =
      record {
        each_runs = All-nil (IsRun t);
        each_once = subst (λ l. IsPermutation l waiting) (sym (append-nil given)) moves;
        none_lost = IsPermutation-refl [];
        failed_is = refl;
        moved_is = refl;
      }

  -- and is over once none waits
  pub over : (alone : Bool) (given : List X) (runs : List (Run X)) (answer sorted : List X) (failed moved : Bool) (end : PassEnd)
      → IsUnderway t alone given runs [] answer failed moved → IsPermutation answer sorted → end ≡ end_by failed (list_all (has_ended t) sorted) moved
      → IsPass t alone given runs sorted × (end ≡ end_of t runs sorted)
  over alone given runs answer sorted failed moved end under moves is = (
    record {
      each_runs = under.each_runs;
      each_once = subst (IsPermutation (given ++ flat_map (joining t alone) runs)) (append-nil (map (λ r. r.before) runs)) under.each_once;
      none_lost = IsPermutation-trans (map (λ r. r.after) runs ++ flat_map (staying t alone) runs) answer sorted under.none_lost moves;
    },
    is ∙ (λ i. end_by (under.failed_is i) (list_all (has_ended t) sorted) (under.moved_is i)),
  )
