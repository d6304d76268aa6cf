-- Copies of blocks of a file.
use Rattle.std.proofs.Common.{◌≡◌, ℕ, zero, suc, ◌<◌, ◌==◌, true, List, [], ◌∷◌, map, refl, ap, sym, ◌∙◌, arith}
use Rattle.std.specs.Prelude.{Some, slice_get}
use Rattle.std.proofs.lemmas.Option.{get_or_from_slice_get, slice_get_within}
use Rattle.pass_entry.proofs.Lists.{any_at, any_of, some_is, same_numbers, same_itself}
use Rattle.pass_range.specs.Rows.{range}
use Rattle.pass_clean.specs.Blocks.{AreListed}
use Rattle.pass_file.specs.BlockSets.{is_among, IsRising}

-- a block with its bytes
abbrev pub copy_of : List ℕ → ℕ → ℕ × List ℕ
copy_of content block = (block, range block content)

mapped : (content blocks : List ℕ) (i : ℕ) (x : ℕ × List ℕ) → slice_get (map (copy_of content) blocks) i ≡ Some x → (b : ℕ) × (slice_get blocks i ≡ Some b) × (copy_of content b ≡ x)
mapped content [] zero x at = absurd (cc)
mapped content [] (suc i) x at = absurd (cc)
mapped content (b ∷ blocks) zero x at = (b, refl, some_is (copy_of content b) x at)
mapped content (b ∷ blocks) (suc i) x at = mapped content blocks i x at

back : (content blocks : List ℕ) (i b : ℕ) → slice_get blocks i ≡ Some b → slice_get (map (copy_of content) blocks) i ≡ Some (copy_of content b)
back content [] zero b at = absurd (cc)
back content [] (suc i) b at = absurd (cc)
back content (y ∷ blocks) zero b at = ap (λ n. Some (copy_of content n)) (some_is y b at)
back content (y ∷ blocks) (suc i) b at = back content blocks i b at

pub listed_copies : (blocks content : List ℕ) → IsRising blocks → ((b : ℕ) → is_among blocks b ≡ true → b < 1024) → AreListed (is_among blocks) content 1024 (map (copy_of content) blocks)
listed_copies blocks content rising below = record {
  each = λ i x at.
      let m = mapped content blocks i x at in
      let here = any_of (λ b. b == x.0) blocks i m.0 m.1 (same_first m.0 x m.2) in
      (below x.0 here, here, sym (ap (λ (y : ℕ × List ℕ). y.1) m.2) ∙ ap (λ n. range n content) (ap (λ (y : ℕ × List ℕ). y.0) m.2));
  all = λ b low is.
      let at = any_at (λ r. r == b) blocks is in
      record { i = at.0; x = copy_of content at.1; is = back content blocks at.0 at.1 at.2; same = same_numbers at.1 b at.3 };
  rising = λ i j x y less one two.
      let m = mapped content blocks i x one in
      let n = mapped content blocks j y two in
      let z = rising i j less (slice_get_within blocks j n.0 n.1) in
      let a = get_or_from_slice_get blocks i m.0 0 m.1 in
      let b = get_or_from_slice_get blocks j n.0 0 n.1 in
      let p : m.0 ≡ x.0 = ap (λ (v : ℕ × List ℕ). v.0) m.2 in
      let q : n.0 ≡ y.0 = ap (λ (v : ℕ × List ℕ). v.0) n.2 in
      omega (arith, z, a, b, p, q);
}
  where
    same_first : (b : ℕ) (x : ℕ × List ℕ) → copy_of content b ≡ x → (b == x.0) ≡ true
    same_first b x is = ap (λ (y : ℕ × List ℕ). b == y.0) (sym is) ∙ same_itself b
