-- The versions of leaves with their contents.
use Rattle.std.proofs.Common.{◌≡◌, ◌⊎◌, ℕ, ◌<◌, ◌≤◌, ◌==◌, Bool, true, false, List, [], ◌∷◌, ◌++◌, inl, inr, refl, sym, ◌∙◌, ap, subst, arith, append_assoc}
use Rattle.std.specs.Prelude.{Option, Some, None, filter, if◌then◌else◌}
use Rattle.std.proofs.lemmas.Bool.Decides.{nat_tests}
use Rattle.std.proofs.lemmas.List.{append-nil}
use Rattle.std.proofs.lemmas.List.Elements.{filter-append}
use Rattle.pass_entry.specs.declared.objects.Node.{Node}
use Rattle.pass_entry.proofs.Lists.{true_left, true_right, same_numbers, alike}
use Rattle.pass_leaf.specs.Leaves.{Leaf}
use Rattle.pass_leaf.specs.Contents.{laid, last_content, last_version, is_of, content_after, AreLeavesAfter}
use Rattle.pass_leaf.specs.Keeping.{FileVersion}
use Rattle.pass_leaf.specs.Laws.{AreConsistent, IsAmong}
use Rattle.pass_leaf.proofs.Lists.{last_version-push}
use Rattle.pass_prune.specs.Prunings.{version_behind, contents_after, chosen_of}

-- with more leaves behind
contents-append : (past xs ys : List Leaf) → contents_after past (xs ++ ys) ≡ contents_after past xs ++ contents_after (past ++ xs) ys
contents-append past [] ys = ap (λ (l : List Leaf). contents_after l ys) (sym (append-nil past))
contents-append past (x ∷ xs) ys =
    ap (λ (vs : List FileVersion). version_behind past x ∷ vs)
    (contents-append (past ++ x ∷ []) xs ys ∙ ap (λ (l : List Leaf). contents_after (past ++ x ∷ []) xs ++ contents_after l ys) (append_assoc past (x ∷ []) xs))

pub chosen-append : (choice : Node → Bool) (xs ys : List Leaf) → chosen_of choice (xs ++ ys) ≡ chosen_of choice xs ++ filter (λ v. choice v.node) (contents_after xs ys)
chosen-append choice xs ys =
    ap (filter (λ (v : FileVersion). choice v.node)) (contents-append [] xs ys) ∙ filter-append (λ (v : FileVersion). choice v.node) (contents_after [] xs) (contents_after xs ys)

-- of a file the versions rise
rises_if : (b : Bool) (old new : ℕ) → (b ≡ true → old < new) → old ≤ (if b then new else old)
rises_if true old new above = omega (arith, above refl)
rises_if false old new above = omega arith

pub rises_one : (past : List Leaf) (leaf : Leaf) (pnode : ℕ) → last_version past leaf.node.pnode < leaf.node.version → last_version past pnode ≤ last_version (past ++ leaf ∷ []) pnode
rises_one past leaf pnode above =
    subst (λ (n : ℕ). last_version past pnode ≤ n) (sym (last_version-push past leaf pnode))
    (rises_if (leaf.node.pnode == pnode) (last_version past pnode) leaf.node.version (λ is. subst (λ (p : ℕ). last_version past p < leaf.node.version) (same_numbers leaf.node.pnode pnode is) above))

pub rises : (past leaves : List Leaf) (pnode : ℕ) → AreLeavesAfter past leaves → last_version past pnode ≤ last_version (past ++ leaves) pnode
rises past [] pnode are = subst (λ (l : List Leaf). last_version past pnode ≤ last_version l pnode) (sym (append-nil past)) (omega arith)
rises past (leaf ∷ leaves) pnode are =
    let on : last_version (past ++ leaf ∷ []) pnode ≤ last_version (past ++ leaf ∷ leaves) pnode =
    subst (λ (l : List Leaf). last_version (past ++ leaf ∷ []) pnode ≤ last_version l pnode) (append_assoc past (leaf ∷ []) leaves) (rises (past ++ leaf ∷ []) leaves pnode are.2) in
    omega (arith, on, rises_one past leaf pnode are.1)

pub last_is : (past : List Leaf) (leaf : Leaf) (pnode : ℕ) → leaf.node.pnode ≡ pnode → last_version (past ++ leaf ∷ []) pnode ≡ leaf.node.version
last_is past leaf pnode same =
    last_version-push past leaf pnode
    ∙ ap (λ (b : Bool). if b then leaf.node.version else last_version past pnode) (alike leaf.node.pnode pnode same)

pub above : (past leaves : List Leaf) → AreLeavesAfter past leaves → (v : FileVersion) → IsAmong v (contents_after past leaves) → last_version past v.node.pnode < v.node.version
above past [] are v among = absurd among
above past (leaf ∷ leaves) are v (inl is) = subst (λ (x : FileVersion). last_version past x.node.pnode < x.node.version) is are.1
above past (leaf ∷ leaves) are v (inr rest) = omega (arith, above (past ++ leaf ∷ []) leaves are.2 v rest, rises_one past leaf v.node.pnode are.1)

later : (past : List Leaf) (leaf : Leaf) (leaves : List Leaf) → AreLeavesAfter past (leaf ∷ leaves) → (v : FileVersion) → IsAmong v (contents_after (past ++ leaf ∷ []) leaves)
    → leaf.node.pnode ≡ v.node.pnode → leaf.node.version < v.node.version
later past leaf leaves are v among same = omega (arith, above (past ++ leaf ∷ []) leaves are.2 v among, last_is past leaf v.node.pnode same)

pub consistent : (past leaves : List Leaf) → AreLeavesAfter past leaves → AreConsistent (contents_after past leaves)
consistent past [] are = tt
consistent past (leaf ∷ leaves) are = (
  λ v among same. omega (arith, later past leaf leaves are v among same),
  λ v among same. absurd (omega (arith, later past leaf leaves are v among (ap (λ (n : Node). n.pnode) same), ap (λ (n : Node). n.version) same)),
  consistent (past ++ leaf ∷ []) leaves are.2,
)

-- each has its content, and no other node has one
is_itself : (leaf : Leaf) → is_of leaf.node leaf ≡ true
is_itself leaf = grind (arith, nat_tests)

if_so : (b : Bool) (x y : Option (List ℕ)) → b ≡ true → (if b then x else y) ≡ x
if_so true x y is = refl
if_so false x y is = absurd (cc is)

if_not : (b : Bool) (x y : Option (List ℕ)) → (b ≡ true → ⊥) → (if b then x else y) ≡ y
if_not true x y none = absurd (none refl)
if_not false x y none = refl

pub has_content : (past leaves : List Leaf) → AreLeavesAfter past leaves → (v : FileVersion) → IsAmong v (contents_after past leaves) → content_after past leaves v.node ≡ Some v.bytes
has_content past [] are v among = absurd among
has_content past (leaf ∷ leaves) are v (inl is) =
    subst (λ (x : FileVersion). content_after past (leaf ∷ leaves) x.node ≡ Some x.bytes) is
    (if_so (is_of leaf.node leaf) (Some (laid (last_content past leaf.node.pnode) leaf)) (content_after (past ++ leaf ∷ []) leaves leaf.node) (is_itself leaf))
has_content past (leaf ∷ leaves) are v (inr rest) =
    if_not (is_of v.node leaf) (Some (laid (last_content past v.node.pnode) leaf)) (content_after (past ++ leaf ∷ []) leaves v.node) (λ is.
    omega (
      arith,
      later past leaf leaves are v rest (same_numbers leaf.node.pnode v.node.pnode (true_left (leaf.node.pnode == v.node.pnode) (leaf.node.version == v.node.version) is)),
      same_numbers leaf.node.version v.node.version (true_right (leaf.node.pnode == v.node.pnode) (leaf.node.version == v.node.version) is),
    ))
    ∙ has_content (past ++ leaf ∷ []) leaves are.2 v rest

-- a version of these leaves has the node
abbrev pub HasVersion : List Leaf → List Leaf → Node → Type 0
HasVersion past leaves node = (v : FileVersion) × IsAmong v (contents_after past leaves) × (v.node ≡ node)

pub found_or : (past leaves : List Leaf) (node : Node) → HasVersion past leaves node ⊎ (content_after past leaves node ≡ None)
found_or past [] node = inr refl
found_or past (leaf ∷ leaves) node = at_test (is_of node leaf) refl (found_or (past ++ leaf ∷ []) leaves node)
  where
    at_test : (b : Bool) → is_of node leaf ≡ b → HasVersion (past ++ leaf ∷ []) leaves node ⊎ (content_after (past ++ leaf ∷ []) leaves node ≡ None)
        → HasVersion past (leaf ∷ leaves) node ⊎ ((if b then Some (laid (last_content past node.pnode) leaf) else content_after (past ++ leaf ∷ []) leaves node) ≡ None)
    at_test true is rest =
        let pnode = same_numbers leaf.node.pnode node.pnode (true_left (leaf.node.pnode == node.pnode) (leaf.node.version == node.version) is) in
        let version = same_numbers leaf.node.version node.version (true_right (leaf.node.pnode == node.pnode) (leaf.node.version == node.version) is) in
        inl (version_behind past leaf, inl refl, λ i. record { pnode = pnode i; version = version i })
    at_test false is (inl (v, among, same)) = inl (v, inr among, same)
    at_test false is (inr none) = inr none
