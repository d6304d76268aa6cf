-- Lists of leaves with one leaf more.
use Rattle.std.proofs.Common.{◌≡◌, ℕ, ◌<◌, ◌==◌, ◌||◌, Bool, true, false, List, [], ◌∷◌, ◌++◌, refl, sym, subst, append_assoc}
use Rattle.std.specs.Prelude.{fold, if◌then◌else◌, Some, None, Result, Ok, Err, OnOk, OnErr}
use Rattle.std.specs.List.{list_any}
use Rattle.std.proofs.lemmas.List.{append-nil}
use Rattle.pass_entry.specs.declared.objects.Node.{Node}
use Rattle.pass_leaf.specs.Leaves.{Leaf, IsFormed}
use Rattle.pass_leaf.specs.Contents.{laid, last_content, last_version, is_of, content_after, AreLeavesAfter, AreLeaves}

fold-push : {A B : Type 0} (f : B → A → B) (z : B) (xs : List A) (x : A) → fold f z (xs ++ x ∷ []) ≡ f (fold f z xs) x
fold-push f z [] x = refl
fold-push f z (y ∷ xs) x = fold-push f (f z y) xs x

pub last_version-push : (leaves : List Leaf) (leaf : Leaf) (pnode : ℕ) → last_version (leaves ++ leaf ∷ []) pnode ≡ (if leaf.node.pnode == pnode then leaf.node.version else last_version leaves pnode)
last_version-push leaves leaf pnode = fold-push (λ old leaf. if leaf.node.pnode == pnode then leaf.node.version else old) 0 leaves leaf

pub last_content-push : (leaves : List Leaf) (leaf : Leaf) (pnode : ℕ) → last_content (leaves ++ leaf ∷ []) pnode ≡ (if leaf.node.pnode == pnode then laid (last_content leaves pnode) leaf else last_content leaves pnode)
last_content-push leaves leaf pnode = fold-push (λ old leaf. if leaf.node.pnode == pnode then laid old leaf else old) [] leaves leaf

are_after-push : (past leaves : List Leaf) (leaf : Leaf) → AreLeavesAfter past leaves → IsFormed leaf → last_version (past ++ leaves) leaf.node.pnode < leaf.node.version → AreLeavesAfter past (leaves ++ leaf ∷ [])
are_after-push past [] leaf are formed above = (formed, subst (λ (l : List Leaf). last_version l leaf.node.pnode < leaf.node.version) (append-nil past) above, tt)
are_after-push past (one ∷ leaves) leaf are formed above =
    (are.0, are.1, are_after-push (past ++ one ∷ []) leaves leaf are.2 formed (subst (λ (l : List Leaf). last_version l leaf.node.pnode < leaf.node.version) (sym (append_assoc past (one ∷ []) leaves)) above))

pub are-push : (leaves : List Leaf) (leaf : Leaf) → AreLeaves leaves → IsFormed leaf → last_version leaves leaf.node.pnode < leaf.node.version → AreLeaves (leaves ++ leaf ∷ [])
are-push leaves leaf are formed above = are_after-push [] leaves leaf are formed above

-- one leaf more, or none
pub are_either : {T E : Type 0} (old new : List Leaf) (leaf : Leaf) (result : Result T E) → AreLeaves old → IsFormed leaf → last_version old leaf.node.pnode < leaf.node.version
    → OnOk result (new ≡ old ++ leaf ∷ []) → OnErr result (new ≡ old) → AreLeaves new
are_either old new leaf (Ok x) are formed above more same = subst AreLeaves (sym more) (are-push old leaf are formed above)
are_either old new leaf (Err x) are formed above more same = subst AreLeaves (sym same) are

-- the first ones of leaves
are_after-front : (past leaves more : List Leaf) → AreLeavesAfter past (leaves ++ more) → AreLeavesAfter past leaves
are_after-front past [] more are = tt
are_after-front past (leaf ∷ leaves) more are = (are.0, are.1, are_after-front (past ++ leaf ∷ []) leaves more are.2)

pub are-front : (leaves more : List Leaf) → AreLeaves (leaves ++ more) → AreLeaves leaves
are-front leaves more are = are_after-front [] leaves more are

-- the content of a node among leaves that stand behind others
pub none_has : (past leaves : List Leaf) (node : Node) → list_any (is_of node) leaves ≡ false → content_after past leaves node ≡ None
none_has past [] node none = refl
none_has past (leaf ∷ leaves) node none = by_test (is_of node leaf) none (λ rest. none_has (past ++ leaf ∷ []) leaves node rest)
  where
    by_test : (b : Bool) → (b || list_any (is_of node) leaves) ≡ false → (list_any (is_of node) leaves ≡ false → content_after (past ++ leaf ∷ []) leaves node ≡ None)
        → (if b then Some (laid (last_content past node.pnode) leaf) else content_after (past ++ leaf ∷ []) leaves node) ≡ None
    by_test true none rest = absurd (cc none)
    by_test false none rest = rest none

pub some_has : (past leaves : List Leaf) (node : Node) → list_any (is_of node) leaves ≡ true → content_after past leaves node ≡ None → ⊥
some_has past [] node some none = cc some
some_has past (leaf ∷ leaves) node some none = by_test (is_of node leaf) some none (λ here rest. some_has (past ++ leaf ∷ []) leaves node here rest)
  where
    by_test : (b : Bool) → (b || list_any (is_of node) leaves) ≡ true → (if b then Some (laid (last_content past node.pnode) leaf) else content_after (past ++ leaf ∷ []) leaves node) ≡ None
        → (list_any (is_of node) leaves ≡ true → content_after (past ++ leaf ∷ []) leaves node ≡ None → ⊥) → ⊥
    by_test true some none rest = cc none
    by_test false some none rest = rest some none
