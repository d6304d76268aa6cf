-- What stands of the versions that are kept.
use Rattle.std.proofs.Common.{◌≡◌, ◌⊎◌, ℕ, ◌-◌, ◌<◌, ◌≤◌, ◌==◌, ◌&&◌, ◌||◌, Bool, true, false, List, [], ◌∷◌, ◌++◌, inl, inr, refl, sym, ◌∙◌, ap, subst, arith, append_assoc}
use Rattle.std.specs.Prelude.{Option, Some, None, if◌then◌else◌, nat_lt}
use Rattle.std.specs.List.{list_any}
use Rattle.std.proofs.lemmas.Bool.{cases_eq, cases_lt}
use Rattle.std.proofs.lemmas.Bool.Decides.{nat_tests}
use Rattle.std.proofs.lemmas.List.{append-nil}
use Rattle.pass_entry.specs.declared.objects.Node.{Node}
use Rattle.pass_leaf.specs.Leaves.{Leaf}
use Rattle.pass_leaf.specs.Contents.{laid, last_content, last_version, is_of, content_after, content_of, AreLeavesAfter, AreLeaves}
use Rattle.pass_leaf.specs.Keeping.{leaf_from, FileVersion, is_above, kept_with, kept_all}
use Rattle.pass_leaf.specs.Laws.{AreConsistent, IsAmong, ContentsStayLaw, KeptLaw, OthersLaw}
use Rattle.pass_leaf.proofs.Laying.{laid_again}
use Rattle.pass_leaf.proofs.Lists.{last_version-push}

-- the versions of each file's leaves rise
abbrev Rising : List Leaf → List Leaf → Type 0
Rising past [] = Unit {0}
Rising past (leaf ∷ leaves) = (last_version past leaf.node.pnode < leaf.node.version) × Rising (past ++ leaf ∷ []) leaves

are_rising : (past leaves : List Leaf) → AreLeavesAfter past leaves → Rising past leaves
are_rising past [] are = tt
are_rising past (leaf ∷ leaves) are = (are.1, are_rising (past ++ leaf ∷ []) leaves are.2)

rising-push : (past leaves : List Leaf) (leaf : Leaf) → Rising past leaves → last_version (past ++ leaves) leaf.node.pnode < leaf.node.version → Rising past (leaves ++ leaf ∷ [])
rising-push past [] leaf are above = (subst (λ (l : List Leaf). last_version l leaf.node.pnode < leaf.node.version) (append-nil past) above, tt)
rising-push past (one ∷ leaves) leaf are above =
    (are.0, rising-push (past ++ one ∷ []) leaves leaf are.1 (subst (λ (l : List Leaf). last_version l leaf.node.pnode < leaf.node.version) (sym (append_assoc past (one ∷ []) leaves)) above))

-- a content that is there stays when leaves come behind
stays_if : (b : Bool) (x y z : Option (List ℕ)) (bytes : List ℕ) → (y ≡ Some bytes → z ≡ Some bytes) → (if b then x else y) ≡ Some bytes → (if b then x else z) ≡ Some bytes
stays_if true x y z bytes on is = is
stays_if false x y z bytes on is = on is

stays_after : (past xs ys : List Leaf) (node : Node) (bytes : List ℕ) → content_after past xs node ≡ Some bytes → content_after past (xs ++ ys) node ≡ Some bytes
stays_after past [] ys node bytes is = absurd (cc is)
stays_after past (leaf ∷ xs) ys node bytes is =
    stays_if (is_of node leaf) (Some (laid (last_content past node.pnode) leaf)) (content_after (past ++ leaf ∷ []) xs node) (content_after (past ++ leaf ∷ []) (xs ++ ys) node) bytes
    (λ rest. stays_after (past ++ leaf ∷ []) xs ys node bytes rest) is

pub stays : (leaves more : List Leaf) (node : Node) (bytes : List ℕ) → content_of leaves node ≡ Some bytes → content_of (leaves ++ more) node ≡ Some bytes
stays leaves more node bytes is = stays_after [] leaves more node bytes is

kept_if : (b : Bool) (leaves : List Leaf) (leaf : Leaf) (node : Node) (bytes : List ℕ) → content_of leaves node ≡ Some bytes → content_of (if b then leaves ++ leaf ∷ [] else leaves) node ≡ Some bytes
kept_if true leaves leaf node bytes is = stays leaves (leaf ∷ []) node bytes is
kept_if false leaves leaf node bytes is = is

kept_stays : (leaves : List Leaf) (v : FileVersion) (node : Node) (bytes : List ℕ) → content_of leaves node ≡ Some bytes → content_of (kept_with leaves v) node ≡ Some bytes
kept_stays leaves v node bytes is = kept_if (is_above leaves v.node) leaves (leaf_from (last_content leaves v.node.pnode) v.node v.bytes) node bytes is

pub contents_stay : ContentsStayLaw
contents_stay leaves [] node bytes is = is
contents_stay leaves (v ∷ versions) node bytes is = contents_stay (kept_with leaves v) versions node bytes (kept_stays leaves v node bytes is)

-- the version of a file's last leaf only rises
rises_if : (b : Bool) (old new : ℕ) → (b ≡ true → old < new) → old ≤ (if b then new else old)
rises_if true old new above = omega (arith, above refl)
rises_if false old new above = omega arith

same_file : (a b : ℕ) → (a == b) ≡ true → a ≡ b
same_file a b is = grind (arith, nat_tests)

rises_one : (past : List Leaf) (leaf : Leaf) (pnode : ℕ) → last_version past leaf.node.pnode < leaf.node.version → last_version past pnode ≤ last_version (past ++ leaf ∷ []) pnode
rises_one past leaf pnode above =
    subst (λ (n : ℕ). last_version past pnode ≤ n) (sym (last_version-push past leaf pnode))
    (rises_if (leaf.node.pnode == pnode) (last_version past pnode) leaf.node.version (λ is. subst (λ (p : ℕ). last_version past p < leaf.node.version) (same_file leaf.node.pnode pnode is) above))

rises : (past leaves : List Leaf) (pnode : ℕ) → Rising past leaves → last_version past pnode ≤ last_version (past ++ leaves) pnode
rises past [] pnode are = subst (λ (l : List Leaf). last_version past pnode ≤ last_version l pnode) (sym (append-nil past)) (omega arith)
rises past (leaf ∷ leaves) pnode are =
    let on : last_version (past ++ leaf ∷ []) pnode ≤ last_version (past ++ leaf ∷ leaves) pnode =
    subst (λ (l : List Leaf). last_version (past ++ leaf ∷ []) pnode ≤ last_version l pnode) (append_assoc past (leaf ∷ []) leaves) (rises (past ++ leaf ∷ []) leaves pnode are.1) in
    omega (arith, on, rises_one past leaf pnode are.0)

-- no leaf has a version above that of its file's last one
both : (a b : Bool) → (a && b) ≡ true → (a ≡ true) × (b ≡ true)
both true b h = (refl, h)
both false b h = absurd (cc h)

last_is : (past : List Leaf) (leaf : Leaf) (pnode : ℕ) → (leaf.node.pnode == pnode) ≡ true → last_version (past ++ leaf ∷ []) pnode ≡ leaf.node.version
last_is past leaf pnode is = last_version-push past leaf pnode ∙ ap (λ (b : Bool). if b then leaf.node.version else last_version past pnode) is

not_of : (past leaves : List Leaf) (leaf : Leaf) (node : Node) → Rising (past ++ leaf ∷ []) leaves → last_version (past ++ leaf ∷ leaves) node.pnode < node.version → is_of node leaf ≡ true → ⊥
not_of past leaves leaf node are above is =
    let parts = both (leaf.node.pnode == node.pnode) (leaf.node.version == node.version) is in
    let version : leaf.node.version ≡ node.version = same_file leaf.node.version node.version parts.1 in
    let on : last_version (past ++ leaf ∷ []) node.pnode ≤ last_version (past ++ leaf ∷ leaves) node.pnode =
    subst (λ (l : List Leaf). last_version (past ++ leaf ∷ []) node.pnode ≤ last_version l node.pnode) (append_assoc past (leaf ∷ []) leaves) (rises (past ++ leaf ∷ []) leaves node.pnode are) in
    omega (arith, above, version, on, last_is past leaf node.pnode parts.0)

or_none : (a b : Bool) → (a ≡ true → ⊥) → b ≡ false → (a || b) ≡ false
or_none true b none rest = absurd (none refl)
or_none false b none rest = rest

no_leaf : (past leaves : List Leaf) (node : Node) → Rising past leaves → last_version (past ++ leaves) node.pnode < node.version → list_any (is_of node) leaves ≡ false
no_leaf past [] node are above = refl
no_leaf past (leaf ∷ leaves) node are above =
    or_none (is_of node leaf) (list_any (is_of node) leaves) (not_of past leaves leaf node are.1 above)
    (no_leaf (past ++ leaf ∷ []) leaves node are.1 (subst (λ (l : List Leaf). last_version l node.pnode < node.version) (sym (append_assoc past (leaf ∷ []) leaves)) above))

-- leaves that haven't the node are passed over
pass_if : (b : Bool) (rest : Bool) (x y z : Option (List ℕ)) → (b || rest) ≡ false → (rest ≡ false → y ≡ z) → (if b then x else y) ≡ z
pass_if true rest x y z none on = absurd (cc none)
pass_if false rest x y z none on = on none

passed : (past xs ys : List Leaf) (node : Node) → list_any (is_of node) xs ≡ false → content_after past (xs ++ ys) node ≡ content_after (past ++ xs) ys node
passed past [] ys node none = ap (λ (l : List Leaf). content_after l ys node) (sym (append-nil past))
passed past (leaf ∷ xs) ys node none =
    pass_if (is_of node leaf) (list_any (is_of node) xs) (Some (laid (last_content past node.pnode) leaf)) (content_after (past ++ leaf ∷ []) (xs ++ ys) node) (content_after (past ++ leaf ∷ xs) ys node) none
    (λ rest. passed (past ++ leaf ∷ []) xs ys node rest ∙ ap (λ (l : List Leaf). content_after l ys node) (append_assoc past (leaf ∷ []) xs))

-- the leaf of a version above the file's last one has the version's content
itself : (n : ℕ) → (n == n) ≡ true
itself n = grind (arith, nat_tests)

found_if : (a b : Bool) (x y : Option (List ℕ)) → a ≡ true → b ≡ true → (if a && b then x else y) ≡ x
found_if true true x y one two = refl
found_if true false x y one two = absurd (cc two)
found_if false b x y one two = absurd (cc one)

new_leaf : (leaves : List Leaf) (v : FileVersion) → Rising [] leaves → last_version leaves v.node.pnode < v.node.version → content_of (leaves ++ leaf_from (last_content leaves v.node.pnode) v.node v.bytes ∷ []) v.node ≡ Some v.bytes
new_leaf leaves v are above =
    let leaf = leaf_from (last_content leaves v.node.pnode) v.node v.bytes in
    passed [] leaves (leaf ∷ []) v.node (no_leaf [] leaves v.node are above)
    ∙ found_if (v.node.pnode == v.node.pnode) (v.node.version == v.node.version) (Some (laid (last_content leaves v.node.pnode) leaf)) None (itself v.node.pnode) (itself v.node.version)
    ∙ ap (λ (l : List ℕ). Some l) (laid_again (last_content leaves v.node.pnode) v.bytes v.node)

above_is : (m n : ℕ) → m < n → nat_lt m n ≡ true
above_is m n lt = grind (arith, nat_tests)

above_not : (m n : ℕ) → n ≤ m → nat_lt m n ≡ false
above_not m n le = grind (arith, nat_tests)

kept_above : (leaves : List Leaf) (v : FileVersion) → last_version leaves v.node.pnode < v.node.version → kept_with leaves v ≡ leaves ++ leaf_from (last_content leaves v.node.pnode) v.node v.bytes ∷ []
kept_above leaves v above = ap (λ (b : Bool). if b then leaves ++ leaf_from (last_content leaves v.node.pnode) v.node v.bytes ∷ [] else leaves) (above_is (last_version leaves v.node.pnode) v.node.version above)

new_kept : (leaves : List Leaf) (v : FileVersion) → Rising [] leaves → last_version leaves v.node.pnode < v.node.version → content_of (kept_with leaves v) v.node ≡ Some v.bytes
new_kept leaves v are above = ap (λ (l : List Leaf). content_of l v.node) (kept_above leaves v above) ∙ new_leaf leaves v are above

-- one version more leaves the last versions of other files alone, and its own is then the last
other_if : (b c : Bool) (leaves : List Leaf) (leaf : Leaf) (pnode : ℕ) → (leaf.node.pnode == pnode) ≡ c → c ≡ false → last_version (if b then leaves ++ leaf ∷ [] else leaves) pnode ≡ last_version leaves pnode
other_if true c leaves leaf pnode is none = last_version-push leaves leaf pnode ∙ ap (λ (t : Bool). if t then leaf.node.version else last_version leaves pnode) (is ∙ none)
other_if false c leaves leaf pnode is none = refl

same_if : (b : Bool) (leaves : List Leaf) (leaf : Leaf) (pnode most : ℕ) → (leaf.node.pnode == pnode) ≡ true → last_version leaves pnode ≤ most → leaf.node.version ≤ most → last_version (if b then leaves ++ leaf ∷ [] else leaves) pnode ≤ most
same_if true leaves leaf pnode most is old new = omega (arith, last_is leaves leaf pnode is, new)
same_if false leaves leaf pnode most is old new = old

-- all versions of one file in a list rise, and those of one node are one
module _ (v : FileVersion) where
  later : (leaves : List Leaf) (d : FileVersion) → Rising [] leaves → last_version leaves v.node.pnode < v.node.version → (d.node.pnode ≡ v.node.pnode → d.node.version ≤ v.node.version) → (d.node.pnode ≡ v.node.pnode → d.node.version ≡ v.node.version → d.bytes ≡ v.bytes)
      → (last_version (kept_with leaves d) v.node.pnode < v.node.version) ⊎ (content_of (kept_with leaves d) v.node ≡ Some v.bytes)
  later leaves d are above rising one = elim (cases_eq d.node.pnode v.node.pnode) [
    | inr other ↦
        let none : (d.node.pnode == v.node.pnode) ≡ false = grind (arith, nat_tests) in
        inl (subst (λ (n : ℕ). n < v.node.version) (sym (other_if (is_above leaves d.node) (d.node.pnode == v.node.pnode) leaves (leaf_from (last_content leaves d.node.pnode) d.node d.bytes) v.node.pnode refl none)) above)
    | inl same ↦ elim (cases_eq d.node.version v.node.version) [
      | inl version ↦
          let node : d.node ≡ v.node = λ i. record { pnode = same i; version = version i } in
          let here : last_version leaves d.node.pnode < d.node.version = omega (arith, above, version, ap (last_version leaves) same) in
          inr (ap (content_of (kept_with leaves d)) (sym node) ∙ new_kept leaves d are here ∙ ap (λ (l : List ℕ). Some l) (one same version))
      | inr older ↦
          let test : (d.node.pnode == v.node.pnode) ≡ true = grind (arith, nat_tests) in
          let most = same_if (is_above leaves d.node) leaves (leaf_from (last_content leaves d.node.pnode) d.node d.bytes) v.node.pnode (v.node.version - 1) test (omega (arith, above)) (omega (arith, rising same, older)) in
          inl (omega (arith, most, above))
    ]
  ]

above_from : (m n : ℕ) → nat_lt m n ≡ true → m < n
above_from m n is = grind (arith, nat_tests)

rising_if : (b : Bool) (leaves : List Leaf) (leaf : Leaf) → Rising [] leaves → (b ≡ true → last_version leaves leaf.node.pnode < leaf.node.version) → Rising [] (if b then leaves ++ leaf ∷ [] else leaves)
rising_if true leaves leaf are above = rising-push [] leaves leaf are (above refl)
rising_if false leaves leaf are above = are

rising_kept : (leaves : List Leaf) (d : FileVersion) → Rising [] leaves → Rising [] (kept_with leaves d)
rising_kept leaves d are =
    rising_if (is_above leaves d.node) leaves (leaf_from (last_content leaves d.node.pnode) d.node d.bytes) are (above_from (last_version leaves d.node.pnode) d.node.version)

all_kept : (leaves : List Leaf) (versions : List FileVersion) → Rising [] leaves → AreConsistent versions → (v : FileVersion) → IsAmong v versions → last_version leaves v.node.pnode < v.node.version
    → content_of (kept_all leaves versions) v.node ≡ Some v.bytes
all_kept leaves [] are consistent v among above = absurd among
all_kept leaves (d ∷ versions) are consistent v (inl is) above =
    let here : content_of (kept_with leaves d) v.node ≡ Some v.bytes = subst (λ (x : FileVersion). content_of (kept_with leaves x) v.node ≡ Some v.bytes) (sym is) (new_kept leaves v are above) in
    contents_stay (kept_with leaves d) versions v.node v.bytes here
all_kept leaves (d ∷ versions) are consistent v (inr rest) above =
    elim (later v leaves d are above (consistent.0 v rest) (λ same version. consistent.1 v rest (λ i. record { pnode = same i; version = version i }))) [
      | inl still ↦ all_kept (kept_with leaves d) versions (rising_kept leaves d are) consistent.2 v rest still
      | inr is ↦ contents_stay (kept_with leaves d) versions v.node v.bytes is
    ]

pub kept_again : KeptLaw
kept_again leaves versions are consistent v among above = all_kept leaves versions (are_rising [] leaves are) consistent v among above

-- a leaf of the list has the content that its file's leaves up to it make
rising_front : (base xs : List Leaf) (y : Leaf) (ys : List Leaf) → Rising base (xs ++ y ∷ ys) → Rising base xs × (last_version (base ++ xs) y.node.pnode < y.node.version)
rising_front base [] y ys r = (tt, subst (λ (l : List Leaf). last_version l y.node.pnode < y.node.version) (sym (append-nil base)) r.0)
rising_front base (x ∷ xs) y ys r =
    let rest = rising_front (base ++ x ∷ []) xs y ys r.1 in
    ((r.0, rest.0), subst (λ (l : List Leaf). last_version l y.node.pnode < y.node.version) (append_assoc base (x ∷ []) xs) rest.1)

pub content_at : (past : List Leaf) (leaf : Leaf) (more : List Leaf) → AreLeaves (past ++ leaf ∷ more) → content_of (past ++ leaf ∷ more) leaf.node ≡ Some (laid (last_content past leaf.node.pnode) leaf)
content_at past leaf more are =
    let front = rising_front [] past leaf more (are_rising [] (past ++ leaf ∷ more) are) in
    let here : content_of (past ++ leaf ∷ []) leaf.node ≡ Some (laid (last_content past leaf.node.pnode) leaf) =
    passed [] past (leaf ∷ []) leaf.node (no_leaf [] past leaf.node front.0 front.1)
    ∙ found_if (leaf.node.pnode == leaf.node.pnode) (leaf.node.version == leaf.node.version) (Some (laid (last_content past leaf.node.pnode) leaf)) None (itself leaf.node.pnode) (itself leaf.node.version) in
    ap (λ (l : List Leaf). content_of l leaf.node) (sym (append_assoc past (leaf ∷ []) more)) ∙ stays (past ++ leaf ∷ []) more leaf.node (laid (last_content past leaf.node.pnode) leaf) here

-- a version that isn't above its file's last leaf leaves all as it is
kept_below : (leaves : List Leaf) (v : FileVersion) → v.node.version ≤ last_version leaves v.node.pnode → kept_with leaves v ≡ leaves
kept_below leaves v below = ap (λ (b : Bool). if b then leaves ++ leaf_from (last_content leaves v.node.pnode) v.node v.bytes ∷ [] else leaves) (above_not (last_version leaves v.node.pnode) v.node.version below)

-- a leaf of another node behind others
skip_last : (past xs : List Leaf) (leaf : Leaf) (node : Node) → is_of node leaf ≡ false → content_after past (xs ++ leaf ∷ []) node ≡ content_after past xs node
skip_last past [] leaf node none = ap (λ (b : Bool). if b then Some (laid (last_content past node.pnode) leaf) else None) none
skip_last past (x ∷ xs) leaf node none =
    ap (λ (o : Option (List ℕ)). if is_of node x then Some (laid (last_content past node.pnode) x) else o) (skip_last (past ++ x ∷ []) xs leaf node none)

false_if : (b : Bool) → (b ≡ true → ⊥) → b ≡ false
false_if true none = absurd (none refl)
false_if false none = refl

rise_if : (b : Bool) (leaves : List Leaf) (leaf : Leaf) (pnode : ℕ) → (b ≡ true → last_version leaves leaf.node.pnode < leaf.node.version) → last_version leaves pnode ≤ last_version (if b then leaves ++ leaf ∷ [] else leaves) pnode
rise_if true leaves leaf pnode above = rises_one leaves leaf pnode (above refl)
rise_if false leaves leaf pnode above = omega arith

kept_rises : (leaves : List Leaf) (d : FileVersion) (pnode : ℕ) → last_version leaves pnode ≤ last_version (kept_with leaves d) pnode
kept_rises leaves d pnode =
    rise_if (is_above leaves d.node) leaves (leaf_from (last_content leaves d.node.pnode) d.node d.bytes) pnode (above_from (last_version leaves d.node.pnode) d.node.version)

other_stays : (leaves : List Leaf) (d : FileVersion) (node : Node) → (d.node ≡ node → d.node.version ≤ last_version leaves d.node.pnode) → content_of (kept_with leaves d) node ≡ content_of leaves node
other_stays leaves d node none = elim (cases_lt (last_version leaves d.node.pnode) d.node.version) [
  | inr below ↦ ap (λ (l : List Leaf). content_of l node) (kept_below leaves d below)
  | inl above ↦
      let leaf = leaf_from (last_content leaves d.node.pnode) d.node d.bytes in
      let other : is_of node leaf ≡ false = false_if (is_of node leaf) (λ is.
      let parts = both (d.node.pnode == node.pnode) (d.node.version == node.version) is in
      let pnode : d.node.pnode ≡ node.pnode = same_file d.node.pnode node.pnode parts.0 in
      let version : d.node.version ≡ node.version = same_file d.node.version node.version parts.1 in
      let same : d.node ≡ node = λ i. record { pnode = pnode i; version = version i } in
      omega (arith, above, none same)) in
      ap (λ (l : List Leaf). content_of l node) (kept_above leaves d above) ∙ skip_last [] leaves leaf node other
]

pub others_stay : OthersLaw
others_stay leaves [] node none = refl
others_stay leaves (d ∷ versions) node none =
    others_stay (kept_with leaves d) versions node (λ v among same. omega (arith, none v (inr among) same, kept_rises leaves d v.node.pnode))
    ∙ other_stays leaves d node (none d (inl refl))
