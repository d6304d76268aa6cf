-- A set of hashed numbers, seen as a finite set.
use Rattle.std.proofs.Common.{◌≡◌, ℕ, ◌+◌, true, false, ◌==◌, ◌||◌, ◌&&◌, not, cond, refl, ap, sym, ◌∙◌, arith, List, [], ◌∷◌, length}
use Rattle.std.specs.Ordering.{nat_cmp, eq_by_cmp}
use Rattle.std.specs.Cmp.{unsigned_tied, nat_cmp_total}
use Rattle.std.specs.List.{list_any, IsDistinct, AllByRecursion}
use Rattle.std.specs.HashSet as hashed
use Rattle.std.specs.HashSet.{HashSet}
use Rattle.std.specs.FinSet.{FinSet, contains, insert, remove, len, from_list, contains-from_list, contains-insert, contains-remove, len-empty, len-insert, same_set, nat_cmp-IsAntisymmetric}
use Rattle.pass_proc.specs.Views.{ChildrenView}
use Rattle.pass_entry.proofs.Lists.{either, neither, turned}

abbrev pub children_with : FinSet nat_cmp → ℕ → ChildrenView
children_with pnodes room = record { pnodes = pnodes; room = room }

any_tied : (ks : List ℕ) (q : ℕ) → list_any (eq_by_cmp nat_cmp q) ks ≡ list_any (λ k. q == k) ks
any_tied [] q = refl
any_tied (k ∷ ks) q = λ i. unsigned_tied q k i || any_tied ks q i

pub contains-keys : (ks : List ℕ) (q : ℕ) → contains (from_list {R = nat_cmp} ks) q ≡ list_any (λ k. q == k) ks
contains-keys ks q = contains-from_list nat_cmp_total ks q ∙ any_tied ks q

none_equal : (ks : List ℕ) (q : ℕ) → AllByRecursion (λ k. (q == k) ≡ false) ks → list_any (λ k. q == k) ks ≡ false
none_equal [] q none = refl
none_equal (k ∷ ks) q (first, none) = λ i. first i || none_equal ks q none i

pub len-keys : (ks : List ℕ) → IsDistinct ◌==◌ ks → len (from_list {R = nat_cmp} ks) ≡ length ks
unfolding IsDistinct
len-keys [] distinct = len-empty nat_cmp
len-keys (k ∷ ks) (none, distinct) =
    len-insert nat_cmp_total (from_list ks) k
    ∙ ap (λ b. cond b (len (from_list {R = nat_cmp} ks)) (len (from_list {R = nat_cmp} ks) + 1)) (contains-keys ks k ∙ none_equal ks k none)
    ∙ (let rest = len-keys ks distinct in let z : len (from_list {R = nat_cmp} ks) + 1 ≡ length (k ∷ ks) = omega (arith, rest) in z)

module _ (xs ys : List ℕ) where
  same_keys : ((q : ℕ) → list_any (λ k. q == k) ys ≡ list_any (λ k. q == k) xs) → from_list {R = nat_cmp} ys ≡ from_list xs
  same_keys same = same_set nat_cmp_total nat_cmp-IsAntisymmetric _ _ (λ q. contains-keys ys q ∙ same q ∙ sym (contains-keys xs q))

module _ {S : Type 0} (s n : HashSet ℕ S) where
  pub set-same : ((q : ℕ) → hashed.contains ◌==◌ n q ≡ hashed.contains ◌==◌ s q) → from_list {R = nat_cmp} n.keys ≡ from_list s.keys
  set-same same = same_keys s.keys n.keys same

  pub set-insert : (k : ℕ) → ((q : ℕ) → hashed.contains ◌==◌ n q ≡ cond (k == q) true (hashed.contains ◌==◌ s q)) → from_list {R = nat_cmp} n.keys ≡ insert (from_list s.keys) k
  set-insert k updates = same_set nat_cmp_total nat_cmp-IsAntisymmetric _ _ (λ q.
      contains-keys n.keys q ∙ updates q ∙ either (k == q) (list_any (λ x. q == x) s.keys)
      ∙ (λ i. (turned k q ∙ sym (unsigned_tied q k)) i || sym (contains-keys s.keys q) i) ∙ sym (contains-insert nat_cmp_total (from_list s.keys) k q))

  pub set-remove : (k : ℕ) → ((q : ℕ) → hashed.contains ◌==◌ n q ≡ cond (k == q) false (hashed.contains ◌==◌ s q)) → from_list {R = nat_cmp} n.keys ≡ remove (from_list s.keys) k
  set-remove k updates = same_set nat_cmp_total nat_cmp-IsAntisymmetric _ _ (λ q.
      contains-keys n.keys q ∙ updates q ∙ neither (k == q) (list_any (λ x. q == x) s.keys)
      ∙ (λ i. not ((turned k q ∙ sym (unsigned_tied q k)) i) && sym (contains-keys s.keys q) i) ∙ sym (contains-remove nat_cmp_total (from_list s.keys) k q))
