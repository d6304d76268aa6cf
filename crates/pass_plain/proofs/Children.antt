-- A sorted set of numbers, seen as a finite set.
use Rattle.std.proofs.Common.{◌≡◌, ℕ, true, false, ◌==◌, ◌||◌, ◌&&◌, not, sym, ◌∙◌, arith}
use Rattle.std.proofs.lemmas.Bool.Decides.{nat_tests}
use Rattle.std.specs.Ordering.{nat_cmp, eq_by_cmp}
use Rattle.std.specs.Cmp.{unsigned_tied, nat_cmp_total}
use Rattle.std.specs.BTreeSet as sorted
use Rattle.std.specs.BTreeSet.{BTreeSet}
use Rattle.std.specs.FinSet.{contains, insert, remove, from_list, contains-from_list, contains-insert, contains-remove, same_set, nat_cmp-IsAntisymmetric}
use Rattle.pass_entry.proofs.Lists.{either, neither}

swapped : (a b : ℕ) → eq_by_cmp nat_cmp a b ≡ eq_by_cmp nat_cmp b a
swapped a b = unsigned_tied a b ∙ (let z : (a == b) ≡ (b == a) = grind (arith, nat_tests) in z) ∙ sym (unsigned_tied b a)

pub contains-set : (s : BTreeSet ℕ) (q : ℕ) → contains (from_list {R = nat_cmp} s.keys) q ≡ sorted.contains nat_cmp s q
contains-set s q = contains-from_list nat_cmp_total s.keys q

pub set-insert : (s n : BTreeSet ℕ) (k : ℕ) → sorted.Updates nat_cmp s n k true → from_list {R = nat_cmp} n.keys ≡ insert (from_list s.keys) k
set-insert s n k updates = same_set nat_cmp_total nat_cmp-IsAntisymmetric _ _ (λ q.
    contains-set n q ∙ updates.0 q ∙ either (eq_by_cmp nat_cmp k q) (sorted.contains nat_cmp s q)
    ∙ (λ i. swapped k q i || sym (contains-set s q) i) ∙ sym (contains-insert nat_cmp_total (from_list s.keys) k q))

pub set-remove : (s n : BTreeSet ℕ) (k : ℕ) → sorted.Updates nat_cmp s n k false → from_list {R = nat_cmp} n.keys ≡ remove (from_list s.keys) k
set-remove s n k updates = same_set nat_cmp_total nat_cmp-IsAntisymmetric _ _ (λ q.
    contains-set n q ∙ updates.0 q ∙ neither (eq_by_cmp nat_cmp k q) (sorted.contains nat_cmp s q)
    ∙ (λ i. not (swapped k q i) && sym (contains-set s q) i) ∙ sym (contains-remove nat_cmp_total (from_list s.keys) k q))
