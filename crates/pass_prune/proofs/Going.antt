-- A fresh archive of the chosen versions goes on as the other one.
use Rattle.std.proofs.Common.{◌≡◌, ◌≢◌, ◌⊎◌, ℕ, ◌<◌, ◌≤◌, Bool, true, false, List, [], ◌∷◌, ◌++◌, inl, inr, refl, sym, ◌∙◌, ap, subst, arith, append_assoc}
use Rattle.std.specs.Prelude.{filter, if◌then◌else◌}
use Rattle.std.proofs.lemmas.Bool.{cases_eq, cases_lt}
use Rattle.std.proofs.lemmas.List.{append-nil}
use Rattle.pass_entry.specs.declared.objects.Node.{Node}
use Rattle.pass_entry.proofs.Lists.{alike, different}
use Rattle.pass_leaf.specs.Leaves.{Leaf}
use Rattle.pass_leaf.specs.Contents.{laid, last_content, last_version, AreLeavesAfter}
use Rattle.pass_leaf.specs.Keeping.{leaf_from, FileVersion, kept_with, kept_all}
use Rattle.pass_leaf.specs.Laws.{LaidLaw}
use Rattle.pass_leaf.proofs.Lists.{last_version-push, last_content-push}
use Rattle.pass_leaf.proofs.Answering.{above_is}
use Rattle.pass_prune.specs.Laws.{GoesOnLaw}
use Rattle.pass_prune.specs.Prunings.{version_behind, contents_after}
use Rattle.pass_prune.proofs.Contents.{rises_one, rises, last_is}

-- one leaf more, of the file or of another one
pub content_is : (past : List Leaf) (leaf : Leaf) (p : ℕ) → leaf.node.pnode ≡ p → last_content (past ++ leaf ∷ []) p ≡ laid (last_content past p) leaf
content_is past leaf p same = last_content-push past leaf p ∙ ap (λ (b : Bool). if b then laid (last_content past p) leaf else last_content past p) (alike leaf.node.pnode p same)

pub other_version : (past : List Leaf) (leaf : Leaf) (p : ℕ) → leaf.node.pnode ≢ p → last_version (past ++ leaf ∷ []) p ≡ last_version past p
other_version past leaf p apart = last_version-push past leaf p ∙ ap (λ (b : Bool). if b then leaf.node.version else last_version past p) (different leaf.node.pnode p apart)

pub other_content : (past : List Leaf) (leaf : Leaf) (p : ℕ) → leaf.node.pnode ≢ p → last_content (past ++ leaf ∷ []) p ≡ last_content past p
other_content past leaf p apart = last_content-push past leaf p ∙ ap (λ (b : Bool). if b then laid (last_content past p) leaf else last_content past p) (different leaf.node.pnode p apart)

-- no file has a version above
abbrev Below : List Leaf → List Leaf → Type 0
Below base past = (q : ℕ) → last_version base q ≤ last_version past q

-- a file has the same last version with the same content
abbrev Agrees : ℕ → List Leaf → List Leaf → Type 0
Agrees p base past = (last_version base p ≡ last_version past p) × (last_content base p ≡ last_content past p)

-- the leaf of a version with its content, which is above its file's last one, and above that of the base
module _ (laid_again : LaidLaw) (base past : List Leaf) (leaf : Leaf) (low : Below base past) (above : last_version past leaf.node.pnode < leaf.node.version) where
  bytes : List ℕ
  bytes = laid (last_content past leaf.node.pnode) leaf

  made : Leaf
  made = leaf_from (last_content base leaf.node.pnode) leaf.node bytes

  put : kept_with base (version_behind past leaf) ≡ base ++ made ∷ []
  unfolding bytes made
  put = ap (λ (b : Bool). if b then base ++ made ∷ [] else base) (above_is (last_version base leaf.node.pnode) leaf.node.version (omega (arith, low leaf.node.pnode, above)))

  put_below : (q : ℕ) → last_version (base ++ made ∷ []) q ≤ last_version (past ++ leaf ∷ []) q
  unfolding made
  put_below q = elim (cases_eq leaf.node.pnode q) [
    | inl same ↦ omega (arith, last_is base made q same, last_is past leaf q same)
    | inr apart ↦ omega (arith, low q, other_version base made q apart, other_version past leaf q apart)
  ]

  pub below_on : Below (kept_with base (version_behind past leaf)) (past ++ leaf ∷ [])
  below_on q = subst (λ (l : List Leaf). last_version l q ≤ last_version (past ++ leaf ∷ []) q) (sym put) (put_below q)

  pub agrees_here : (p : ℕ) → leaf.node.pnode ≡ p → Agrees p (kept_with base (version_behind past leaf)) (past ++ leaf ∷ [])
  unfolding bytes made
  agrees_here p same = subst (λ (l : List Leaf). Agrees p l (past ++ leaf ∷ [])) (sym put) (
    last_is base made p same ∙ sym (last_is past leaf p same),
    content_is base made p same ∙ ap (λ (q : ℕ). laid (last_content base q) made) (sym same) ∙ laid_again (last_content base leaf.node.pnode) bytes leaf.node
        ∙ ap (λ (q : ℕ). laid (last_content past q) leaf) same ∙ sym (content_is past leaf p same),
  )

  pub agrees_still : (p : ℕ) → leaf.node.pnode ≢ p → Agrees p base past → Agrees p (kept_with base (version_behind past leaf)) (past ++ leaf ∷ [])
  unfolding made
  agrees_still p apart same = subst (λ (l : List Leaf). Agrees p l (past ++ leaf ∷ [])) (sym put) (
    other_version base made p apart ∙ same.0 ∙ sym (other_version past leaf p apart),
    other_content base made p apart ∙ same.1 ∙ sym (other_content past leaf p apart),
  )

module _ (laid_again : LaidLaw) (choice : Node → Bool) (p : ℕ) where
  -- the file's last version is among those that were kept, or is still to come
  abbrev Comes : List Leaf → List Leaf → List Leaf → Type 0
  Comes base past whole = Agrees p base past ⊎ (last_version past p < last_version whole p)

  -- the last version of the file is chosen
  abbrev IsKept : List Leaf → Type 0
  IsKept whole = (node : Node) → node.pnode ≡ p → last_version whole p ≡ node.version → choice node ≡ true

  abbrev GoesOnto : List Leaf → List FileVersion → List Leaf → Type 0
  GoesOnto base rest whole = Agrees p (kept_all base rest) whole

  -- one leaf, and then the others
  one_on : (base past : List Leaf) (leaf : Leaf) (whole : List Leaf) (rest : List FileVersion) → Below base past → last_version past leaf.node.pnode < leaf.node.version
      → ((q : ℕ) → last_version (past ++ leaf ∷ []) q ≤ last_version whole q) → IsKept whole → Comes base past whole
      → ((next : List Leaf) → Below next (past ++ leaf ∷ []) → Comes next (past ++ leaf ∷ []) whole → GoesOnto next rest whole)
      → (b : Bool) → choice leaf.node ≡ b → GoesOnto base (if b then version_behind past leaf ∷ rest else rest) whole
  one_on base past leaf whole rest low above within kept before on true chosen =
      on (kept_with base (version_behind past leaf)) (below_on laid_again base past leaf low above) (elim (cases_eq leaf.node.pnode p) [
        | inl same ↦ inl (agrees_here laid_again base past leaf low above p same)
        | inr apart ↦ elim before [
          | inl agrees ↦ inl (agrees_still laid_again base past leaf low above p apart agrees)
          | inr later ↦ inr (subst (λ (v : ℕ). v < last_version whole p) (sym (other_version past leaf p apart)) later)
        ]
      ])
  one_on base past leaf whole rest low above within kept before on false chosen =
      on base (λ q. omega (arith, low q, rises_one past leaf q above)) (elim (cases_eq leaf.node.pnode p) [
        | inl same ↦ elim (cases_lt (last_version (past ++ leaf ∷ []) p) (last_version whole p)) [
          | inl later ↦ inr later
          | inr end ↦
              let is : last_version whole p ≡ leaf.node.version = omega (arith, end, within p, last_is past leaf p same) in
              absurd (let e : true ≡ false = sym (kept leaf.node same is) ∙ chosen in cc e)
        ]
        | inr apart ↦ elim before [
          | inl agrees ↦ inl (agrees.0 ∙ sym (other_version past leaf p apart), agrees.1 ∙ sym (other_content past leaf p apart))
          | inr later ↦ inr (subst (λ (v : ℕ). v < last_version whole p) (sym (other_version past leaf p apart)) later)
        ]
      ])

  all_on : (base past leaves : List Leaf) → Below base past → AreLeavesAfter past leaves → IsKept (past ++ leaves) → Comes base past (past ++ leaves)
      → GoesOnto base (filter (λ v. choice v.node) (contents_after past leaves)) (past ++ leaves)
  all_on base past [] low are kept (inl same) = subst (Agrees p base) (sym (append-nil past)) same
  all_on base past [] low are kept (inr later) = absurd (omega (arith, later, ap (λ (l : List Leaf). last_version l p) (append-nil past)))
  all_on base past (leaf ∷ leaves) low are kept before =
      let whole = past ++ leaf ∷ leaves in
      let rest = filter (λ (v : FileVersion). choice v.node) (contents_after (past ++ leaf ∷ []) leaves) in
      let same : (past ++ leaf ∷ []) ++ leaves ≡ whole = append_assoc past (leaf ∷ []) leaves in
      one_on base past leaf whole rest low are.1 (λ q. subst (λ (l : List Leaf). last_version (past ++ leaf ∷ []) q ≤ last_version l q) same (rises (past ++ leaf ∷ []) leaves q are.2)) kept before
      (λ next below comes.
      subst (GoesOnto next rest) same
      (all_on next (past ++ leaf ∷ []) leaves below are.2 (subst IsKept (sym same) kept) (subst (Comes next (past ++ leaf ∷ [])) (sym same) comes)))
      (choice leaf.node) refl

pub goes_on : LaidLaw → GoesOnLaw
goes_on laid_again choice leaves are current p =
    all_on laid_again choice p [] [] leaves (λ q. omega arith) are (λ node same is. current node (ap (last_version leaves) same ∙ is)) (inl (refl, refl))
