-- The order of ranges.
use Rattle.std.proofs.Common.{◌≡◌, ◌∙◌, ◌==◌, ◌<◌, ℕ, List, get_or, refl, sym, ap, arith, inl, inr}
use Rattle.std.specs.declared.cmp.Ordering.{Ordering}
use Rattle.std.specs.declared.cmp.Ordering.TheVariants.{Less, Equal, Greater}
use Rattle.std.specs.Ordering.{nat_cmp, ordering_then, is_eq}
use Rattle.std.specs.Cmp.{IsTotalOrder, nat_cmp_total}
use Rattle.std.proofs.lemmas.Cmp.{on_total, then_total}
use Rattle.std.specs.List.Sorted.{IsStrictlySortedBy}
use Rattle.std.proofs.lemmas.Map.Keys.{Less-from_sorted}
use Rattle.std.proofs.lemmas.Map.Lookups.{CmpEqualImpliesEq}
use Rattle.std.proofs.lemmas.Option.{slice_get_within, get_or_from_slice_get}
use Rattle.std.proofs.lemmas.Bool.Decides.{nat_tests}
use Rattle.pass_plain.proofs.Lists.{true_left, true_right, same_numbers}
use Rattle.pass_range.specs.declared.range.Range.{Range}
use Rattle.pass_range.specs.Laters.{range_cmp}
use Rattle.pass_range.specs.Tables.{IsBelow, IsAscending}
use Rattle.pass_range.proofs.Noting.{is_eq-range_cmp}

pub range_cmp_total : IsTotalOrder range_cmp
range_cmp_total = then_total (on_total (λ (r : Range). r.pnode) nat_cmp_total) (on_total (λ (r : Range). r.block) nat_cmp_total)

pub range_cmp_exact : CmpEqualImpliesEq range_cmp
range_cmp_exact = λ a b e.
    let both = sym (is_eq-range_cmp a b) ∙ ap is_eq e in
    same a b (same_numbers a.pnode b.pnode (true_left (a.pnode == b.pnode) (a.block == b.block) both)) (same_numbers a.block b.block (true_right (a.pnode == b.pnode) (a.block == b.block) both))
  where
    same : (a b : Range) → a.pnode ≡ b.pnode → a.block ≡ b.block → a ≡ b
    same a b p q = λ i. record { pnode = p i; block = q i }

below : (a b : Range) → range_cmp a b ≡ Less → IsBelow a b
below a b e = by_both (nat_cmp a.pnode b.pnode) (nat_cmp a.block b.block) refl refl e
  where
    less : (m n : ℕ) → nat_cmp m n ≡ Less → m < n
    less m n e = grind (arith, nat_tests)

    tied : (m n : ℕ) → nat_cmp m n ≡ Equal → m ≡ n
    tied m n e = grind (arith, nat_tests)

    by_both : (o q : Ordering) → nat_cmp a.pnode b.pnode ≡ o → nat_cmp a.block b.block ≡ q → ordering_then o q ≡ Less → IsBelow a b
    by_both Less q one two e = inl (less a.pnode b.pnode one)
    by_both Equal q one two e = inr (tied a.pnode b.pnode one, less a.block b.block (two ∙ e))
    by_both Greater q one two e = absurd (cc)

pub ascending_from_sorted : (ranges : List Range) → IsStrictlySortedBy range_cmp ranges → IsAscending ranges
ascending_from_sorted ranges sorted = λ i j a b less first second.
    let low = slice_get_within ranges j b second in
    below a b (sym (ap (λ (r : Range). range_cmp r b) (get_or_from_slice_get ranges i a a first)) ∙ ap (range_cmp (get_or ranges i a)) (sym (get_or_from_slice_get ranges j b a second)) ∙ Less-from_sorted range_cmp ranges i j a sorted less low)
