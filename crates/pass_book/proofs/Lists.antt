-- Lists of views after a change, and two lists that begin a third.
use Rattle.std.proofs.lemmas.Bool.Decides.{nat_tests}
use Rattle.std.proofs.Common.{◌≡◌, ◌≢◌, ℕ, zero, suc, ◌<◌, ◌≤◌, ◌+◌, Bool, true, false, cond, List, [], ◌∷◌, ◌++◌, length, set, refl, sym, ap, ◌∙◌, ⊎_elim, arith}
use Rattle.std.specs.Prelude.{ltb}
use Rattle.std.proofs.lemmas.List.{length-set}
use mathlib.Core.Option.{some, some-ne-none, some-injective}
use mathlib.Core.List.{IsPrefix}
use lib.ListN.{get_elem?}
use Rattle.atomic_table.proofs.Lists.{at_set}
use Rattle.pass_book.specs.declared.view.View.{View}
use Rattle.pass_book.specs.Views.{claims, longer}
use Rattle.pass_book.proofs.Prefixes.{prefix_self, prefix_shorter}
use Rattle.pass_book.proofs.Lookups.{at_end}

-- where a view of a longer list stood before
pub data Came (views : List View) (id : ℕ) (l r : View) (j : ℕ) (u : View) : Type 0 where
  came : j ≡ length views → r ≡ u → Came views id l r j u
  changed : j ≡ id → l ≡ u → Came views id l r j u
  stood : j ≢ id → get_elem? views j ≡ some u → Came views id l r j u

pub whence : (views : List View) (id : ℕ) (l r : View) (j : ℕ) (u : View) → get_elem? (set views id l ++ r ∷ []) j ≡ some u → Came views id l r j u
whence views id l r j u e =
    ⊎_elim
    (λ (o : get_elem? (set views id l) j ≡ some u). ⊎_elim (λ (t : (j ≡ id) × (l ≡ u)). changed t.0 t.1) (λ (t : (j ≢ id) × (get_elem? views j ≡ some u)). stood t.0 t.1) (at_set views id j l u o))
    (λ (t : (j ≡ length (set views id l)) × (r ≡ u)). came (t.0 ∙ length-set views id l) t.1)
    (at_end (set views id l) r u j e)

-- where a view stood before a join
pub data Joined (views : List View) (id : ℕ) (l : View) (other : ℕ) (x : View) (j : ℕ) (u : View) : Type 0 where
  used : j ≡ other → x ≡ u → Joined views id l other x j u
  gained : j ≢ other → j ≡ id → l ≡ u → Joined views id l other x j u
  alone : j ≢ other → j ≢ id → get_elem? views j ≡ some u → Joined views id l other x j u

pub joined : (views : List View) (id : ℕ) (l : View) (other : ℕ) (x : View) (j : ℕ) (u : View) → get_elem? (set (set views id l) other x) j ≡ some u → Joined views id l other x j u
joined views id l other x j u e =
    ⊎_elim
    (λ (t : (j ≡ other) × (x ≡ u)). used t.0 t.1)
    (λ (t : (j ≢ other) × (get_elem? (set views id l) j ≡ some u)).
    ⊎_elim (λ (y : (j ≡ id) × (l ≡ u)). gained t.0 y.0 y.1) (λ (y : (j ≢ id) × (get_elem? views j ≡ some u)). alone t.0 y.0 y.1) (at_set views id j l u t.1))
    (at_set (set views id l) other j x u e)

-- what the other seat had
pub before_join : (views : List View) (id other : ℕ) (l w : View) → ¬ (other ≡ id) → get_elem? (set views id l) other ≡ some w → get_elem? views other ≡ some w
before_join views id other l w apart there =
    ⊎_elim (λ (t : (other ≡ id) × (l ≡ w)). absurd (apart t.0)) (λ (t : (other ≢ id) × (get_elem? views other ≡ some w)). t.1) (at_set views id other l w there)

claims_set : (views : List View) (i : ℕ) (v w : View) → get_elem? views i ≡ some v → claims (set views i w) + v.claimed ≡ claims views + w.claimed
claims_set [] i v w e = absurd (some-ne-none v (sym e))
claims_set (x ∷ xs) zero v w e =
    let same : x.claimed ≡ v.claimed = ap (λ (u : View). u.claimed) (some-injective x v e) in
    let sum : (w.claimed + claims xs) + v.claimed ≡ (x.claimed + claims xs) + w.claimed = omega arith in sum
claims_set (x ∷ xs) (suc i) v w e =
    let h = claims_set xs i v w e in
    let sum : (x.claimed + claims (set xs i w)) + v.claimed ≡ (x.claimed + claims xs) + w.claimed = omega arith in sum

claims_end : (views : List View) (r : View) → claims (views ++ r ∷ []) ≡ claims views + r.claimed
claims_end [] r = let sum : r.claimed + 0 ≡ 0 + r.claimed = omega arith in sum
claims_end (x ∷ xs) r = let h = claims_end xs r in let sum : x.claimed + claims (xs ++ r ∷ []) ≡ (x.claimed + claims xs) + r.claimed = omega arith in sum

pub claims_changed : (views : List View) (i : ℕ) (v w : View) (m n : ℕ) → get_elem? views i ≡ some v → claims views ≡ m → m + w.claimed ≡ n + v.claimed → claims (set views i w) ≡ n
claims_changed views i v w m n e was balance = let h = claims_set views i v w e in omega arith

pub claims_split : (views : List View) (i : ℕ) (v l r : View) (m n : ℕ) → get_elem? views i ≡ some v → claims views ≡ m → m + (l.claimed + r.claimed) ≡ n + v.claimed → claims (set views i l ++ r ∷ []) ≡ n
claims_split views i v l r m n e was balance =
    let h = claims_set views i v l e in
    let a = claims_end (set views i l) r in omega arith

pub claims_joined : (views : List View) (i j : ℕ) (v w l x : View) (m n : ℕ) → get_elem? views i ≡ some v → ¬ (j ≡ i) → get_elem? (set views i l) j ≡ some w → claims views ≡ m → m + (l.claimed + x.claimed) ≡ n + (v.claimed + w.claimed) → claims (set (set views i l) j x) ≡ n
claims_joined views i j v w l x m n e apart there was balance =
    let h = claims_set views i v l e in
    let k = claims_set (set views i l) j w x there in omega arith

claimed_within : (views : List View) (i : ℕ) (v : View) → get_elem? views i ≡ some v → v.claimed ≤ claims views
claimed_within [] i v e = absurd (some-ne-none v (sym e))
claimed_within (x ∷ xs) zero v e =
    let same : x.claimed ≡ v.claimed = ap (λ (u : View). u.claimed) (some-injective x v e) in let sum : v.claimed ≤ x.claimed + claims xs = omega arith in sum
claimed_within (x ∷ xs) (suc i) v e = let h = claimed_within xs i v e in let sum : v.claimed ≤ x.claimed + claims xs = omega arith in sum

pub claimed_at_most : (views : List View) (i : ℕ) (v : View) (n : ℕ) → get_elem? views i ≡ some v → claims views ≡ n → v.claimed ≤ n
claimed_at_most views i v n e is = let h = claimed_within views i v e in omega arith

-- the longer of two beginnings of a list
longer_if : {A : Type 0} (xs ys h : List A) (t : Bool) → ltb (length xs) (length ys) ≡ t → IsPrefix xs h → IsPrefix ys h → IsPrefix xs (cond t ys xs) × IsPrefix ys (cond t ys xs) × IsPrefix (cond t ys xs) h
longer_if xs ys h true e p q = (prefix_shorter xs ys h p q (let l : length xs < length ys = grind (arith, nat_tests) in omega arith), prefix_self ys, q)
longer_if xs ys h false e p q = (prefix_self xs, prefix_shorter ys xs h q p (let l : length ys ≤ length xs = grind (arith, nat_tests) in omega arith), p)

pub longer_of : {A : Type 0} (xs ys h : List A) → IsPrefix xs h → IsPrefix ys h → IsPrefix xs (longer xs ys) × IsPrefix ys (longer xs ys) × IsPrefix (longer xs ys) h
longer_of xs ys h p q = longer_if xs ys h (ltb (length xs) (length ys)) refl p q
