-- A leaf among others, each of which has a version above that of its file's leaf before it.
use Rattle.std.proofs.Common.{◌≡◌, ◌∙◌, ◌==◌, ◌&&◌, ◌+◌, ◌<◌, ◌++◌, ℕ, Bool, true, false, List, [], ◌∷◌, length, take, drop, get_or, refl, sym, ap, subst, arith, append_assoc, append-nil}
use Rattle.std.specs.Prelude.{Some, if◌then◌else◌}
use Rattle.std.proofs.lemmas.List.{take-append-drop}
use Rattle.pass_entry.proofs.Lists.{same_itself, same_numbers, true_left, true_right}
use Rattle.pass_plain.proofs.Replays.{take-next}
use Rattle.pass_leaf.specs.Leaves.{Leaf}
use Rattle.pass_leaf.specs.Contents.{laid, last_content, last_version, is_of, content_after, content_of, AreLeavesAfter, AreLeaves}
use Rattle.pass_leaf.proofs.Lists.{last_version-push}

module _ (leaf : Leaf) (more : List Leaf) where
  -- its version is above those of all leaves of its file in front of it
  above : (past leaves : List Leaf) → AreLeavesAfter past (leaves ++ leaf ∷ more) → last_version past leaf.node.pnode < leaf.node.version
  above past [] are = are.1
  above past (x ∷ leaves) are = by (x.node.pnode == leaf.node.pnode) refl (subst (λ (n : ℕ). n < leaf.node.version) (last_version-push past x leaf.node.pnode) (above (past ++ x ∷ []) leaves are.2))
    where
      by : (b : Bool) → (x.node.pnode == leaf.node.pnode) ≡ b → (if b then x.node.version else last_version past leaf.node.pnode) < leaf.node.version → last_version past leaf.node.pnode < leaf.node.version
      by true is low = omega (arith, low, are.1, ap (last_version past) (same_numbers x.node.pnode leaf.node.pnode is))
      by false is low = low

  front_above : (past leaves : List Leaf) → AreLeavesAfter past (leaves ++ leaf ∷ more) → last_version (past ++ leaves) leaf.node.pnode < leaf.node.version
  front_above past [] are = subst (λ (l : List Leaf). last_version l leaf.node.pnode < leaf.node.version) (sym (append-nil past)) are.1
  front_above past (x ∷ leaves) are =
      subst (λ (l : List Leaf). last_version l leaf.node.pnode < leaf.node.version) (append_assoc past (x ∷ []) leaves) (front_above (past ++ x ∷ []) leaves are.2)

  -- none in front of it has its node
  other : (past leaves : List Leaf) (x : Leaf) → AreLeavesAfter (past ++ x ∷ []) (leaves ++ leaf ∷ more) → is_of leaf.node x ≡ false
  other past leaves x are = by (is_of leaf.node x) refl
    where
      by : (b : Bool) → is_of leaf.node x ≡ b → b ≡ false
      by false is = refl
      by true is =
          let file : (x.node.pnode == leaf.node.pnode) ≡ true = true_left (x.node.pnode == leaf.node.pnode) (x.node.version == leaf.node.version) is in
          let same : x.node.version ≡ leaf.node.version = same_numbers x.node.version leaf.node.version (true_right (x.node.pnode == leaf.node.pnode) (x.node.version == leaf.node.version) is) in
          let last : last_version (past ++ x ∷ []) leaf.node.pnode ≡ x.node.version =
          last_version-push past x leaf.node.pnode ∙ ap (λ (b : Bool). if b then x.node.version else last_version past leaf.node.pnode) file in
          absurd (omega (arith, above (past ++ x ∷ []) leaves are, last, same))

  found_after : (past leaves : List Leaf) → AreLeavesAfter past (leaves ++ leaf ∷ more) → content_after past (leaves ++ leaf ∷ more) leaf.node ≡ Some (laid (last_content (past ++ leaves) leaf.node.pnode) leaf)
  found_after past [] are =
      ap (λ (b : Bool). if b then Some (laid (last_content past leaf.node.pnode) leaf) else content_after (past ++ leaf ∷ []) more leaf.node) (λ i. same_itself leaf.node.pnode i && same_itself leaf.node.version i)
      ∙ ap (λ (l : List Leaf). Some (laid (last_content l leaf.node.pnode) leaf)) (sym (append-nil past))
  found_after past (x ∷ leaves) are =
      ap (λ (b : Bool). if b then Some (laid (last_content past leaf.node.pnode) x) else content_after (past ++ x ∷ []) (leaves ++ leaf ∷ more) leaf.node) (other past leaves x are.2)
      ∙ found_after (past ++ x ∷ []) leaves are.2 ∙ ap (λ (l : List Leaf). Some (laid (last_content l leaf.node.pnode) leaf)) (append_assoc past (x ∷ []) leaves)

-- a leaf at its place
module _ (leaves : List Leaf) (i : ℕ) (leaf : Leaf) (less : i < length leaves) (at : leaf ≡ get_or leaves i leaf) where
  split : leaves ≡ take i leaves ++ leaf ∷ drop (i + 1) leaves
  split = sym (take-append-drop (i + 1) leaves) ∙ ap (λ (l : List Leaf). l ++ drop (i + 1) leaves) (take-next leaves i leaf less at) ∙ append_assoc (take i leaves) (leaf ∷ []) (drop (i + 1) leaves)

  pub is_above_those : AreLeaves leaves → last_version (take i leaves) leaf.node.pnode < leaf.node.version
  is_above_those are = front_above leaf (drop (i + 1) leaves) [] (take i leaves) (subst AreLeaves split are)

  pub is_content : AreLeaves leaves → content_of leaves leaf.node ≡ Some (laid (last_content (take i leaves) leaf.node.pnode) leaf)
  is_content are = ap (λ (l : List Leaf). content_of l leaf.node) split ∙ found_after leaf (drop (i + 1) leaves) [] (take i leaves) (subst AreLeaves split are)
