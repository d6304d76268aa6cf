-- Beginnings of a list, and what stands behind them.
use Rattle.std.proofs.Common.{◌≡◌, ◌≤◌, List, [], ◌∷◌, ◌++◌, length, refl, ap, arith}

-- a beginning that is not shorter is the whole
pub whole_is : {X : Type 0} (xs later ys : List X) → xs ++ later ≡ ys → length ys ≤ length xs → xs ≡ ys
whole_is [] [] [] e le = refl
whole_is [] [] (y ∷ ys) e le = absurd (omega arith)
whole_is [] (x ∷ later) ys e le = absurd (let z = ap length e in omega (arith, z, le))
whole_is (x ∷ xs) later [] e le = absurd (cc)
whole_is (x ∷ xs) later (y ∷ ys) e le = let rest = whole_is xs later ys (cc e) (omega arith) in cc (e, rest)
