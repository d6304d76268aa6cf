-- The blocks of a content, and those that are in doubt.
use Rattle.std.proofs.Common.{◌≡◌, ◌∙◌, ◌&&◌, ◌==◌, ◌+◌, ◌<◌, ◌≤◌, ℕ, zero, suc, Bool, true, false, cond, List, length, inl, inr, ⊎_elim, refl, sym, ap, subst, arith}
use Rattle.std.specs.Prelude.{Option}
use Rattle.std.specs.List.{list_all, range_with_len}
use Rattle.std.specs.Cmp.{unsigned_tied}
use Rattle.std.specs.Ordering.{nat_cmp}
use Rattle.std.specs.BTreeMap.{BTreeMap, get}
use Rattle.std.specs.BTreeSet.{BTreeSet, contains, Updates}
use Rattle.std.proofs.lemmas.Bool.{cases_eq}
use Rattle.pass_entry.proofs.Lists.{and_none, same_numbers}
use Rattle.pass_leaf.specs.Leaves.{Leaf, IsFormed}
use Rattle.pass_leaf.specs.Contents.{laid}
use Rattle.pass_leaf.specs.Keeping.{part, block_total}
use Rattle.pass_leaf.proofs.Laying.{length-laid}
use Rattle.pass_audit.specs.Audits.{is_part_borne}
use Rattle.pass_audit.specs.Courses.{AreDoubted, AreSure, ReachOver, has_block}
use Rattle.pass_audit.proofs.Parts.{part_laid}

-- the row of a block bears it out
abbrev pub holds : BTreeMap ℕ (List ℕ) → List ℕ → ℕ → Bool
holds rows content block = is_part_borne (get nat_cmp rows block) (part content block)

pub all_hold : (f : ℕ → Bool) (a n : ℕ) → ((b : ℕ) → a ≤ b → b < a + n → f b ≡ true) → list_all f (range_with_len a n) ≡ true
all_hold f a zero each = refl
all_hold f a (suc n) each =
    ap (λ (t : Bool). t && list_all f (range_with_len (a + 1) n)) (each a (omega arith) (omega arith))
    ∙ all_hold f (a + 1) n (λ b from below. each b (omega (arith, from)) (omega (arith, below)))

pub one_fails : (f : ℕ → Bool) (a n b : ℕ) → a ≤ b → b < a + n → f b ≡ false → list_all f (range_with_len a n) ≡ false
one_fails f a zero b from below is = absurd (omega (arith, from, below))
one_fails f a (suc n) b from below is = elim (cases_eq b a) [
  | inl same ↦ ap (λ (t : Bool). t && list_all f (range_with_len (a + 1) n)) (ap f (sym same) ∙ is)
  | inr other ↦ ap (λ (t : Bool). f a && t) (one_fails f (a + 1) n b (omega (arith, from, other)) (omega (arith, below)) is) ∙ and_none (f a)
]

-- a block that is borne out comes out of doubt
pub sure_out : (rows : BTreeMap ℕ (List ℕ)) (content : List ℕ) (old new : BTreeSet ℕ) (block : ℕ) → Updates nat_cmp old new block false → holds rows content block ≡ true → AreSure rows content old → AreSure rows content new
sure_out rows content old new block updates here sure q below out = by (block == q) refl
  where
    by : (t : Bool) → (block == q) ≡ t → holds rows content q ≡ true
    by true is = subst (λ (n : ℕ). holds rows content n ≡ true) (same_numbers block q is) here
    by false is = sure q below (sym (updates.0 q ∙ ap (λ (t : Bool). cond t false (contains nat_cmp old q)) (unsigned_tied block q ∙ is)) ∙ out)

-- behind a step
pub sure_noted : (old new : BTreeMap ℕ (List ℕ)) (content : List ℕ) (before after : BTreeSet ℕ) → AreSure old content before → AreDoubted old new before after → AreSure new content after
sure_noted old new content before after sure doubted block below out =
    let d = doubted block out in
    ap (λ (row : Option (List ℕ)). is_part_borne row (part content block)) d.1 ∙ sure block below d.0

-- behind a leaf
pub sure_laid : (rows : BTreeMap ℕ (List ℕ)) (old new : List ℕ) (leaf : Leaf) (size : ℕ) (before after : BTreeSet ℕ) → IsFormed leaf → size ≡ length old → new ≡ laid old leaf
    → ((b : ℕ) → contains nat_cmp after b ≡ false → (contains nat_cmp before b ≡ false) × (b < block_total leaf.size → ReachOver size leaf.size b) × (has_block leaf b ≡ false))
    → AreSure rows old before → AreSure rows new after
sure_laid rows old new leaf size before after formed long put doubted sure block below out =
    let d = doubted block out in
    let within : block < block_total leaf.size = subst (λ (n : ℕ). block < block_total n) (ap length put ∙ length-laid old leaf formed) below in
    let reach : ReachOver (length old) leaf.size block = subst (λ (n : ℕ). ReachOver n leaf.size block) long (d.1 within) in
    let there : block < block_total (length old) = ⊎_elim (λ same. subst (λ (n : ℕ). block < block_total n) (sym same) within) (λ both. omega (arith, both.0)) reach in
    ap (is_part_borne (get nat_cmp rows block)) (ap (λ (l : List ℕ). part l block) put ∙ part_laid old leaf block formed reach d.2) ∙ sure block there d.0
