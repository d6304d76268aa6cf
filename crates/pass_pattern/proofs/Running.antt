-- Reading a text from a state on.
use Rattle.std.proofs.Common.{ℕ, ◌≡◌, refl, sym, ap, ◌∙◌, List, [], ◌∷◌, ◌++◌}
use Rattle.std.specs.Prelude.{Option, Some, None}
use Rattle.pass_plain.proofs.Lists.{some_is}
use Rattle.pass_pattern.specs.Reading.{State, read_byte}

abbrev pub and_on : Option State → (State → Option State) → Option State
and_on None next = None
and_on (Some s) next = next s

-- the state behind the text, if it is read to its end
abbrev pub run : State → List ℕ → Option State
run s [] = Some s
run s (byte ∷ rest) = and_on (read_byte s byte) (λ t. run t rest)

and_so : (next : Option State) (f g : State → Option State) (o p : Option State) → ((u : State) → f u ≡ o → g u ≡ p) → (None ≡ o → None ≡ p) → and_on next f ≡ o → and_on next g ≡ p
and_so None f g o p go stop is = stop is
and_so (Some u) f g o p go stop is = go u is

-- one text is read behind another
pub runs_on : (s t : State) (xs ys : List ℕ) (o : Option State) → run s xs ≡ Some t → run t ys ≡ o → run s (xs ++ ys) ≡ o
runs_on s t [] ys o first second = ap (λ u. run u ys) (some_is s t first) ∙ second
runs_on s t (byte ∷ xs) ys o first second =
    and_so (read_byte s byte) (λ u. run u xs) (λ u. run u (xs ++ ys)) (Some t) o (λ u is. runs_on u t xs ys o is second) (λ none. absurd (let z : ◌≡◌ {A = Option State} None (Some t) = none in cc)) first

-- nothing is read behind a dead end
pub stopped : (s : State) (xs ys : List ℕ) → run s xs ≡ None → run s (xs ++ ys) ≡ None
stopped s [] ys none = absurd (let z : ◌≡◌ {A = Option State} (Some s) None = none in cc)
stopped s (byte ∷ xs) ys none = and_so (read_byte s byte) (λ u. run u xs) (λ u. run u (xs ++ ys)) None None (λ u is. stopped u xs ys is) (λ same. same) none

-- of a text that is read to its end each beginning is
pub front_run : (s t : State) (xs ys : List ℕ) → run s (xs ++ ys) ≡ Some t → (u : State) × (run s xs ≡ Some u)
front_run s t xs ys is = at_run (run s xs) refl
  where
    differ : run s (xs ++ ys) ≡ None → ◌≡◌ {A = Option State} (Some t) None
    differ none = sym is ∙ none

    at_run : (o : Option State) → run s xs ≡ o → (u : State) × (run s xs ≡ Some u)
    at_run (Some u) so = (u, so)
    at_run None so = absurd (let z : ◌≡◌ {A = Option State} (Some t) None = differ (stopped s xs ys so) in cc)
