-- One record more before those that were noted.
use Rattle.std.proofs.Common.{◌≡◌, ◌∙◌, ◌==◌, ◌&&◌, ◌||◌, ◌<◌, ◌≤◌, subst, ℕ, Bool, true, false, cond, List, refl, sym, ap, arith}
use Rattle.std.specs.Prelude.{Option, Some, None, nat_le, if◌then◌else◌}
use Rattle.std.specs.Option.{option_map_or}
use Rattle.std.specs.declared.cmp.Ordering.{Ordering}
use Rattle.std.specs.declared.cmp.Ordering.TheVariants.{Less, Equal, Greater}
use Rattle.std.specs.Ordering.{nat_cmp, ordering_then, is_eq}
use Rattle.std.proofs.lemmas.Bool.Decides.{nat_tests}
use Rattle.pass_range.specs.declared.range.Range.{Range}
use Rattle.pass_range.specs.Laters.{range_cmp}
use Rattle.pass_range.specs.Sources.{Touch, stays, sets, goes, and_then, row_after}
use Rattle.pass_range.proofs.LastRows.{stays-then}

-- what a row that stands behind, and a size behind, do to the row of a block
abbrev pub touch_by : Option (List ℕ) → Bool → Touch
touch_by row cut = option_map_or sets row (if cut then goes else stays)

-- a size before
pub size_noted : (row : Option (List ℕ)) (here cut after : Bool) → after ≡ (here || cut) → touch_by row after ≡ and_then (if here then goes else stays) (touch_by row cut)
size_noted (Some digest) here cut after is = refl
size_noted None here true after is = ap (λ (b : Bool). if b then goes else stays) (is ∙ at_here here)
  where
    at_here : (here : Bool) → (here || true) ≡ true
    at_here true = refl
    at_here false = refl
size_noted None here false after is = ap (λ (b : Bool). if b then goes else stays) (is ∙ at_here here)
  where
    at_here : (here : Bool) → (here || false) ≡ here
    at_here true = refl
    at_here false = refl

-- a digest before, of a block that has no row behind and isn't cut there
pub digest_noted : (digest : List ℕ) (row after : Option (List ℕ)) (here cut : Bool) → after ≡ cond here (Some digest) row → (here ≡ true → (row ≡ None) × (cut ≡ false))
    → touch_by after cut ≡ and_then (if here then sets digest else stays) (touch_by row cut)
digest_noted digest row after true cut is free =
    ap (λ (r : Option (List ℕ)). touch_by r cut) is ∙ sym (ap (λ (t : Touch). and_then (sets digest) t) (ap (λ (r : Option (List ℕ)). touch_by r cut) (free refl).0 ∙ ap (touch_by None) (free refl).1))
digest_noted digest row after false cut is free = ap (λ (r : Option (List ℕ)). touch_by r cut) is ∙ sym (stays-then (touch_by row cut))

is_eq-then : (a b : Ordering) → is_eq (ordering_then a b) ≡ (is_eq a && is_eq b)
is_eq-then Less b = refl
is_eq-then Equal b = refl
is_eq-then Greater b = refl

pub is_eq-nat_cmp : (a b : ℕ) → is_eq (nat_cmp a b) ≡ (a == b)
is_eq-nat_cmp a b = grind (arith, nat_tests)

-- two ranges are the same where both parts are
pub is_eq-range_cmp : (a b : Range) → is_eq (range_cmp a b) ≡ ((a.pnode == b.pnode) && (a.block == b.block))
is_eq-range_cmp a b =
    is_eq-then (nat_cmp a.pnode b.pnode) (nat_cmp a.block b.block)
    ∙ ap (λ (x : Bool). x && is_eq (nat_cmp a.block b.block)) (is_eq-nat_cmp a.pnode b.pnode)
    ∙ ap (λ (x : Bool). (a.pnode == b.pnode) && x) (is_eq-nat_cmp a.block b.block)

-- the least size and one more before it
pub size_cut : (least : Option ℕ) (size begin : ℕ) → option_map_or (λ l. nat_le l size) least false ≡ false
    → nat_le size begin ≡ (nat_le size begin || option_map_or (λ l. nat_le l begin) least false)
size_cut None size begin above = at_test (nat_le size begin)
  where
    at_test : (b : Bool) → b ≡ (b || false)
    at_test true = refl
    at_test false = refl
size_cut (Some l) size begin above = by_test (nat_le size begin) (nat_le l begin) refl refl
  where
    by_test : (s t : Bool) → nat_le size begin ≡ s → nat_le l begin ≡ t → s ≡ (s || t)
    by_test true t one two = refl
    by_test false false one two = refl
    by_test false true one two = absurd (let lower : l ≤ begin = grind (arith, nat_tests) in let upper : begin < size = grind (arith, nat_tests) in let low : size < l = grind (arith, nat_tests) in omega arith)

-- one that isn't less changes nothing
pub size_kept : (least : Option ℕ) (size begin : ℕ) → option_map_or (λ l. nat_le l size) least false ≡ true
    → option_map_or (λ l. nat_le l begin) least false ≡ (nat_le size begin || option_map_or (λ l. nat_le l begin) least false)
size_kept None size begin above = absurd (cc)
size_kept (Some l) size begin above = by_test (nat_le size begin) (nat_le l begin) refl refl
  where
    by_test : (s t : Bool) → nat_le size begin ≡ s → nat_le l begin ≡ t → t ≡ (s || t)
    by_test false t one two = refl
    by_test true true one two = refl
    by_test true false one two = absurd (let lower : begin < l = grind (arith, nat_tests) in let upper : size ≤ begin = grind (arith, nat_tests) in let low : l ≤ size = grind (arith, nat_tests) in omega arith)

-- what a size of one file does to the cuts of each file
pub cut_put : (p q size begin : ℕ) (old : ℕ → Option ℕ) (after : Option ℕ) → after ≡ cond (p == q) (Some size) (old q)
    → option_map_or (λ l. nat_le l size) (old p) false ≡ false
    → option_map_or (λ l. nat_le l begin) after false ≡ ((p == q) && nat_le size begin) || option_map_or (λ l. nat_le l begin) (old q) false
cut_put p q size begin old after is above = by_test (p == q) refl is
  where
    by_test : (t : Bool) → (p == q) ≡ t → after ≡ cond t (Some size) (old q)
        → option_map_or (λ l. nat_le l begin) after false ≡ (t && nat_le size begin) || option_map_or (λ l. nat_le l begin) (old q) false
    by_test true same is =
        let here : p ≡ q = grind (arith, same) in
        ap (λ (o : Option ℕ). option_map_or (λ l. nat_le l begin) o false) is
        ∙ size_cut (old q) size begin (ap (λ (i : ℕ). option_map_or (λ l. nat_le l size) (old i) false) (sym here) ∙ above)
    by_test false apart is = ap (λ (o : Option ℕ). option_map_or (λ l. nat_le l begin) o false) is

pub cut_kept : (p q size begin : ℕ) (old : ℕ → Option ℕ) → option_map_or (λ l. nat_le l size) (old p) false ≡ true
    → option_map_or (λ l. nat_le l begin) (old q) false ≡ ((p == q) && nat_le size begin) || option_map_or (λ l. nat_le l begin) (old q) false
cut_kept p q size begin old below = by_test (p == q) refl
  where
    by_test : (t : Bool) → (p == q) ≡ t → option_map_or (λ l. nat_le l begin) (old q) false ≡ (t && nat_le size begin) || option_map_or (λ l. nat_le l begin) (old q) false
    by_test true same =
        let here : p ≡ q = grind (arith, same) in
        size_kept (old q) size begin (ap (λ (i : ℕ). option_map_or (λ l. nat_le l size) (old i) false) (sym here) ∙ below)
    by_test false apart = refl

-- what holds at two numbers holds at the same two
pub at_same : (a b p q : ℕ) (P : ℕ → ℕ → Type 0) → P a b → ((a == p) && (b == q)) ≡ true → P p q
at_same a b p q P here same = by_tests (a == p) (b == q) refl refl same
  where
    by_tests : (s t : Bool) → (a == p) ≡ s → (b == q) ≡ t → (s && t) ≡ true → P p q
    by_tests true true one two h =
        let first : a ≡ p = grind (arith, one) in
        let second : b ≡ q = grind (arith, two) in
        subst (λ (j : ℕ). P p j) second (subst (λ (i : ℕ). P i b) first here)
    by_tests true false one two h = absurd (cc)
    by_tests false true one two h = absurd (cc)
    by_tests false false one two h = absurd (cc)

-- what the records noted leave of no row
pub touched_row : (row : Option (List ℕ)) (cut : Bool) → row_after (touch_by row cut) None ≡ row
touched_row (Some digest) cut = refl
touched_row None true = refl
touched_row None false = refl
