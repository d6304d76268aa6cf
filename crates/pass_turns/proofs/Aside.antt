-- A pass, beside tasks that have ended.
use Rattle.std.proofs.Common.{◌≡◌, ◌<◌, List, [], ◌∷◌, ◌++◌, Bool, All, IsPermutation, ap, append_assoc, arith, map, refl, subst, sym, ◌∙◌}
use Rattle.std.specs.List.{flat_map}
use Rattle.std.proofs.lemmas.List.{map-append}
use Rattle.std.proofs.lemmas.List.Elements.{All-append, All-cons, All-head, All-nil, All-tail}
use Rattle.std.proofs.lemmas.List.Sorted.{IsPermutation-append_comm, IsPermutation-append_left, IsPermutation-append_right, IsPermutation-trans}
use Rattle.pass_sched.specs.declared.task.Task.{Ghosts}
use Rattle.pass_sched.specs.Passes.{IsPass, IsRun, Run, joining, staying}

module _ {X : Type 0} where
  -- one that takes no turn
  abbrev pub idle : X → Run X
  idle x = record { before = x; after = x; kids = [] }

  abbrev pub with_idle : List (Run X) → List X → List (Run X)
  with_idle runs aside = runs ++ map idle aside

  -- what goes behind the first list may stand behind both
  last : (first second aside : List X) → IsPermutation ((first ++ aside) ++ second) ((first ++ second) ++ aside)
  last first second aside =
      subst (λ l. IsPermutation l ((first ++ second) ++ aside)) (sym (append_assoc first aside second))
      (subst (IsPermutation (first ++ (aside ++ second))) (sym (append_assoc first second aside)) (IsPermutation-append_right first (aside ++ second) (second ++ aside) (IsPermutation-append_comm aside second)))

  behind : (first second both aside : List X) → IsPermutation (first ++ second) both → IsPermutation ((first ++ aside) ++ second) (both ++ aside)
  behind first second both aside h =
      IsPermutation-trans ((first ++ aside) ++ second) ((first ++ second) ++ aside) (both ++ aside) (last first second aside) (IsPermutation-append_left aside (first ++ second) both h)

  alike : (f : Run X → X) → ((x : X) → f (idle x) ≡ x) → (aside : List X) → map f (map idle aside) ≡ aside
  alike f is [] = refl
  alike f is (x ∷ xs) = λ i. is x i ∷ alike f is xs i

  ends_with : (f : Run X → X) → ((x : X) → f (idle x) ≡ x) → (runs : List (Run X)) (aside : List X) → map f (with_idle runs aside) ≡ map f runs ++ aside
  ends_with f is runs aside = map-append f runs (map idle aside) ∙ ap (λ l. map f runs ++ l) (alike f is aside)

  silent : (f : Run X → List X) → ((x : X) → f (idle x) ≡ []) → (aside : List X) → flat_map f (map idle aside) ≡ []
  silent f is [] = refl
  silent f is (x ∷ xs) = ap (λ l. l ++ flat_map f (map idle xs)) (is x) ∙ silent f is xs

  no_more : (f : Run X → List X) → ((x : X) → f (idle x) ≡ []) → (runs : List (Run X)) (aside : List X) → flat_map f (with_idle runs aside) ≡ flat_map f runs
  no_more f is [] aside = silent f is aside
  no_more f is (r ∷ rs) aside = ap (λ l. f r ++ l) (no_more f is rs aside)

module _ {X : Type 0} (t : Ghosts X) where
  idle_run : (x : X) → t.left x ≡ 0 → IsRun t (idle x)
  idle_run x none = record {
    ended = λ h. (refl, refl);
    living = λ some. absurd (omega (arith, none, some));
    same_order = refl;
    rises = λ some. absurd (omega (arith, none, some));
    rests = λ some. absurd (omega (arith, none, some));
    falls = omega arith;
    kids_live = All-nil (λ kid. 0 < t.left kid);
  }

  idle_runs : (aside : List X) → All (λ x. t.left x ≡ 0) aside → All (IsRun t) (map idle aside)
  idle_runs [] none = All-nil (IsRun t)
  idle_runs (x ∷ xs) none = All-cons (IsRun t) (idle x) (map idle xs) (idle_run x (All-head (λ x. t.left x ≡ 0) x xs none)) (idle_runs xs (All-tail (λ x. t.left x ≡ 0) x xs none))

  -- it is a pass over all of them
  pub pass_aside : (alone : Bool) (given : List X) (runs : List (Run X)) (answer aside : List X) → All (λ x. t.left x ≡ 0) aside → IsPass t alone given runs answer → IsPass t alone (given ++ aside) (with_idle runs aside) (answer ++ aside)
  pass_aside alone given runs answer aside none pass = record {
    each_runs = All-append (IsRun t) runs (map idle aside) pass.each_runs (idle_runs aside none);
    each_once = subst (λ (x : List X × List X). IsPermutation ((given ++ aside) ++ x.0) x.1)
        (λ i. (sym (no_more (joining t alone) (λ x. refl) runs aside) i, sym (ends_with (λ r. r.before) (λ x. refl) runs aside) i))
        (behind given (flat_map (joining t alone) runs) (map (λ r. r.before) runs) aside pass.each_once);
    none_lost = subst (λ (x : List X × List X). IsPermutation (x.0 ++ x.1) (answer ++ aside))
        (λ i. (sym (ends_with (λ r. r.after) (λ x. refl) runs aside) i, sym (no_more (staying t alone) (λ x. refl) runs aside) i))
        (behind (map (λ r. r.after) runs) (flat_map (staying t alone) runs) answer aside pass.none_lost);
  }
