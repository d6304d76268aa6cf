-- The versions of a file, a leaf after the other.
use Rattle.std.proofs.Common.{◌≡◌, ◌∙◌, ℕ, suc, ◌+◌, ◌<◌, ◌≤◌, ◌==◌, Bool, true, false, List, [], ◌∷◌, ◌++◌, length, take, drop, get_or, refl, sym, ap, subst, append-nil}
use Rattle.std.specs.Prelude.{Option, Some, slice_get, flat_map, if◌then◌else◌}
use Rattle.std.specs.Option.{option_map_or}
use Rattle.std.proofs.lemmas.List.{take_more, take_all}
use Rattle.std.proofs.lemmas.List.Concat.{flat_map-append}
use Rattle.std.proofs.lemmas.Option.{slice_get_read}
use Rattle.pass_entry.proofs.Lists.{same_numbers}
use Rattle.pass_entry.proofs.Places.{parted}
use Rattle.pass_leaf.specs.Leaves.{Leaf}
use Rattle.pass_leaf.specs.Contents.{laid, last_content, content_of, AreLeaves}
use Rattle.pass_leaf.proofs.Keeps.{content_at}
use Rattle.pass_leaf.proofs.Lists.{last_content-push}
use Rattle.pass_old.specs.Listings.{version_line, leaf_line, version_lines}

module _ (leaves : List Leaf) (are : AreLeaves leaves) (file i : ℕ) (leaf : Leaf) (within : i < length leaves) (at : leaf ≡ get_or leaves i leaf) where
  there : slice_get leaves i ≡ Some leaf
  there = slice_get_read leaves (length leaves) i leaf refl within at

  parts : leaves ≡ take i leaves ++ leaf ∷ drop (suc i) leaves
  parts = parted leaves i leaf there

  more : take (i + 1) leaves ≡ take i leaves ++ leaf ∷ []
  more = take_more leaves i leaf within ∙ ap (λ (l : Leaf). take i leaves ++ l ∷ []) (sym at)

  content : content_of leaves leaf.node ≡ Some (laid (last_content (take i leaves) leaf.node.pnode) leaf)
  content = ap (λ (l : List Leaf). content_of l leaf.node) parts ∙ content_at (take i leaves) leaf (drop (suc i) leaves) (subst AreLeaves parts are)

  line : leaf_line leaves file leaf ≡ (if leaf.node.pnode == file then version_line leaf.node (laid (last_content (take i leaves) file) leaf) else [])
  line = by (leaf.node.pnode == file) refl
    where
      by : (b : Bool) → (leaf.node.pnode == file) ≡ b → (if b then option_map_or (version_line leaf.node) (content_of leaves leaf.node) [] else []) ≡ (if b then version_line leaf.node (laid (last_content (take i leaves) file) leaf) else [])
      by true is = ap (λ (o : Option (List ℕ)). option_map_or (version_line leaf.node) o []) content
          ∙ ap (λ (n : ℕ). version_line leaf.node (laid (last_content (take i leaves) n) leaf)) (same_numbers leaf.node.pnode file is)
      by false is = refl

  pub next_lines : (old new content : List ℕ) → old ≡ flat_map (leaf_line leaves file) (take i leaves) → content ≡ last_content (take i leaves) file
      → new ≡ old ++ (if leaf.node.pnode == file then version_line leaf.node (laid content leaf) else []) → new ≡ flat_map (leaf_line leaves file) (take (i + 1) leaves)
  next_lines old new content was laid_is grown =
      grown ∙ ap (λ (c : List ℕ). old ++ (if leaf.node.pnode == file then version_line leaf.node (laid c leaf) else [])) laid_is ∙ ap (λ (t : List ℕ). old ++ t) (sym line)
      ∙ ap (λ (o : List ℕ). o ++ leaf_line leaves file leaf) was ∙ ap (λ (t : List ℕ). flat_map (leaf_line leaves file) (take i leaves) ++ t) (sym (append-nil (leaf_line leaves file leaf)))
      ∙ sym (flat_map-append (leaf_line leaves file) (take i leaves) (leaf ∷ [])) ∙ ap (flat_map (leaf_line leaves file)) (sym more)

  pub next_content : (old new : List ℕ) → old ≡ last_content (take i leaves) file → new ≡ (if leaf.node.pnode == file then laid old leaf else old) → new ≡ last_content (take (i + 1) leaves) file
  next_content old new was grown =
      grown ∙ ap (λ (c : List ℕ). if leaf.node.pnode == file then laid c leaf else c) was ∙ sym (last_content-push (take i leaves) leaf file) ∙ ap (λ (l : List Leaf). last_content l file) (sym more)

pub all_lines : (leaves : List Leaf) (file i : ℕ) (text : List ℕ) → length leaves ≤ i → text ≡ flat_map (leaf_line leaves file) (take i leaves) → text ≡ version_lines leaves file
all_lines leaves file i text last is = is ∙ ap (flat_map (leaf_line leaves file)) (take_all i leaves last)
