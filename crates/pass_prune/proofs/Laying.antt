-- How the contents of leaves are made one after the other.
use Rattle.std.proofs.Common.{◌≡◌, ◌≢◌, ◌⊎◌, ℕ, ◌+◌, ◌<◌, ◌≤◌, ◌==◌, Bool, true, false, List, [], ◌∷◌, ◌++◌, length, take, drop, get_or, IsTrue, inl, inr, refl, sym, ◌∙◌, ap, subst, arith, append_assoc}
use Rattle.std.specs.Prelude.{Option, Some, None, Vec, filter, IfSome, IfNone, if◌then◌else◌}
use Rattle.std.specs.Ordering.{is_eq, nat_cmp}
use Rattle.std.specs.BTreeMap.{BTreeMap, get, Updates, IsEmpty, is_at}
use Rattle.std.specs.Map.{lookup}
use Rattle.std.specs.Cmp.{unsigned_tied}
use Rattle.std.specs.declared.alloc.Global.{Global}
use Rattle.std.proofs.lemmas.Bool.{cases_eq, false_from_ne_true}
use Rattle.std.proofs.lemmas.List.{take-append-drop, drop_more, append-nil}
use Rattle.pass_entry.specs.declared.objects.Node.{Node}
use Rattle.pass_entry.proofs.Lists.{same_numbers, different}
use Rattle.pass_leaf.specs.Leaves.{Leaf}
use Rattle.pass_leaf.specs.Contents.{laid, last_content, last_version, AreLeavesAfter, AreLeaves}
use Rattle.pass_leaf.specs.Keeping.{FileVersion}
use Rattle.pass_past.specs.Keepings.{Begins}
use Rattle.pass_prune.specs.Prunings.{version_behind, contents_after, chosen_of}
use Rattle.pass_prune.specs.Tables.{chosen_one, IsNext, IsSoFar, AreSoFar, IsTakenOut}
use Rattle.pass_plain.proofs.Replays.{take-next}
use Rattle.pass_prune.proofs.Contents.{chosen-append, rises, last_is}
use Rattle.pass_prune.proofs.Going.{other_version, other_content, content_is}

abbrev pub Contents : Type 0
Contents = BTreeMap ℕ (Vec ℕ Global)

-- a leaf of a list stands behind others
pub next_in : (leaves : List Leaf) (i : ℕ) (leaf : Leaf) → AreLeaves leaves → i < length leaves → leaf ≡ get_or leaves i leaf → IsNext leaves (take i leaves) leaf (drop (i + 1) leaves)
next_in leaves i leaf are within at =
    let rest : drop i leaves ≡ leaf ∷ drop (i + 1) leaves = drop_more leaves i leaf within ∙ ap (λ (l : Leaf). l ∷ drop (i + 1) leaves) (sym at) in
    let whole : leaves ≡ take i leaves ++ leaf ∷ drop (i + 1) leaves = sym (take-append-drop i leaves) ∙ ap (λ (l : List Leaf). take i leaves ++ l) rest in
    record { are = subst AreLeaves whole are; whole = whole }

pub chosen_next : (choice : Node → Bool) (leaves : List Leaf) (i : ℕ) (leaf : Leaf) → i < length leaves → leaf ≡ get_or leaves i leaf → chosen_of choice (take (i + 1) leaves) ≡ chosen_of choice (take i leaves) ++ chosen_one choice (take i leaves) leaf
chosen_next choice leaves i leaf within at = ap (chosen_of choice) (take-next leaves i leaf within at) ∙ chosen-append choice (take i leaves) (leaf ∷ [])

-- the leaf is above its file's leaves before it, and not above its last one
are_behind : (past : List Leaf) (leaf : Leaf) (base more : List Leaf) → AreLeavesAfter base (past ++ leaf ∷ more) → AreLeavesAfter (base ++ past) (leaf ∷ more)
are_behind [] leaf base more are = subst (λ (l : List Leaf). AreLeavesAfter l (leaf ∷ more)) (sym (append-nil base)) are
are_behind (x ∷ past) leaf base more are = subst (λ (l : List Leaf). AreLeavesAfter l (leaf ∷ more)) (append_assoc base (x ∷ []) past) (are_behind past leaf (base ++ x ∷ []) more are.2)

pub is_above_past : (all past : List Leaf) (leaf : Leaf) (more : List Leaf) → IsNext all past leaf more → last_version past leaf.node.pnode < leaf.node.version
is_above_past all past leaf more n = (are_behind past leaf [] more n.are).1

pub is_up_to_last : (all past : List Leaf) (leaf : Leaf) (more : List Leaf) → IsNext all past leaf more → leaf.node.version ≤ last_version all leaf.node.pnode
is_up_to_last all past leaf more n =
    let behind = are_behind past leaf [] more n.are in
    let on : last_version (past ++ leaf ∷ []) leaf.node.pnode ≤ last_version (past ++ leaf ∷ more) leaf.node.pnode =
    subst (λ (l : List Leaf). last_version (past ++ leaf ∷ []) leaf.node.pnode ≤ last_version l leaf.node.pnode) (append_assoc past (leaf ∷ []) more) (rises (past ++ leaf ∷ []) more leaf.node.pnode behind.2) in
    omega (arith, on, last_is past leaf leaf.node.pnode refl, ap (λ (l : List Leaf). last_version l leaf.node.pnode) n.whole)

-- the content of a file with one leaf more is made of what the table has
pub made_of : (all past : List Leaf) (leaf : Leaf) (more : List Leaf) (contents : Contents) → IsNext all past leaf more → AreSoFar all past contents → get nat_cmp contents leaf.node.pnode ≡ None
    → last_content past leaf.node.pnode ≡ []
made_of all past leaf more contents next are none = either (subst (λ (o : Option (Vec ℕ Global)). IfNone o ((last_content past leaf.node.pnode ≡ []) ⊎ (last_version all leaf.node.pnode ≤ last_version past leaf.node.pnode))) none (are leaf.node.pnode).gone)
  where
    either : (last_content past leaf.node.pnode ≡ []) ⊎ (last_version all leaf.node.pnode ≤ last_version past leaf.node.pnode) → last_content past leaf.node.pnode ≡ []
    either (inl is) = is
    either (inr end) = absurd (omega (arith, end, is_above_past all past leaf more next, is_up_to_last all past leaf more next))

so_far_as : (all past : List Leaf) (old new : Contents) (q : ℕ) → get nat_cmp new q ≡ get nat_cmp old q → IsSoFar all past old q → IsSoFar all past new q
so_far_as all past old new q same was = record {
  there = subst (λ (o : Option (Vec ℕ Global)). IfSome o (λ v. v.items ≡ last_content past q)) (sym same) was.there;
  gone = subst (λ (o : Option (Vec ℕ Global)). IfNone o ((last_content past q ≡ []) ⊎ (last_version all q ≤ last_version past q))) (sym same) was.gone;
}

-- with the leaf behind, and its content in the table or none behind it
other_on : (all past : List Leaf) (leaf : Leaf) (contents : Contents) (q : ℕ) → leaf.node.pnode ≢ q → IsSoFar all past contents q → IsSoFar all (past ++ leaf ∷ []) contents q
other_on all past leaf contents q apart is = record {
  there = subst (λ (c : List ℕ). IfSome (get nat_cmp contents q) (λ v. v.items ≡ c)) (sym (other_content past leaf q apart)) is.there;
  gone = subst (λ (c : List ℕ). IfNone (get nat_cmp contents q) ((c ≡ []) ⊎ (last_version all q ≤ last_version (past ++ leaf ∷ []) q))) (sym (other_content past leaf q apart))
      (subst (λ (v : ℕ). IfNone (get nat_cmp contents q) ((last_content past q ≡ []) ⊎ (last_version all q ≤ v))) (sym (other_version past leaf q apart)) is.gone);
}

so_far_on : (all past : List Leaf) (leaf : Leaf) (old new : Contents) → IsTakenOut all past old leaf.node.pnode → ((q : ℕ) → q ≢ leaf.node.pnode → get nat_cmp new q ≡ get nat_cmp old q)
    → IsSoFar all (past ++ leaf ∷ []) new leaf.node.pnode → AreSoFar all (past ++ leaf ∷ []) new
so_far_on all past leaf old new taken same here q = elim (cases_eq q leaf.node.pnode) [
  | inl is ↦ subst (IsSoFar all (past ++ leaf ∷ []) new) (sym is) here
  | inr apart ↦ other_on all past leaf new q (λ e. apart (sym e)) (so_far_as all past old new q (same q apart) (taken.others q apart))
]

-- what stands in front of the whole
pub chosen_begins : (choice : Node → Bool) (leaves : List Leaf) (i : ℕ) → Begins (chosen_of choice (take i leaves)) (chosen_of choice leaves)
chosen_begins choice leaves i = (
  filter (λ (v : FileVersion). choice v.node) (contents_after (take i leaves) (drop i leaves)),
  ap (chosen_of choice) (sym (take-append-drop i leaves)) ∙ chosen-append choice (take i leaves) (drop i leaves),
)

-- nothing is known of no leaves
pub so_far_none : (all : List Leaf) (contents : Contents) → IsEmpty contents → AreSoFar all [] contents
so_far_none all contents empty q =
    let none : get nat_cmp contents q ≡ None = ap (lookup (is_at (nat_cmp q))) empty in
    record {
      there = subst (λ (o : Option (Vec ℕ Global)). IfSome o (λ v. v.items ≡ [])) (sym none) tt;
      gone = subst (λ (o : Option (Vec ℕ Global)). IfNone o ((◌≡◌ {A = List ℕ} [] []) ⊎ (last_version all q ≤ 0))) (sym none) (inl refl);
    }

-- the version of the leaf is chosen, or it isn't
pub chosen_so : (P : List FileVersion → Type 0) (choice : Node → Bool) (past : List Leaf) (leaf : Leaf) (done : List FileVersion) (chosen : Bool) (node : Node) (bytes : List ℕ) → node ≡ leaf.node → chosen ≡ choice leaf.node → bytes ≡ laid (last_content past leaf.node.pnode) leaf
    → IsTrue chosen → P (done ++ record { node = node; bytes = bytes } ∷ []) → P (done ++ chosen_one choice past leaf)
chosen_so P choice past leaf done chosen node bytes own is made so =
    let one : FileVersion = record { node = node; bytes = bytes } in
    let same : one ≡ version_behind past leaf = λ i. record { node = own i; bytes = made i } in
    let test : choice leaf.node ≡ true = sym is ∙ so in
    subst (λ (l : List FileVersion). P (done ++ l)) (ap (λ (v : FileVersion). v ∷ []) same ∙ ap (λ (b : Bool). if b then version_behind past leaf ∷ [] else []) (sym test))

pub chosen_not : (P : List FileVersion → Type 0) (choice : Node → Bool) (past : List Leaf) (leaf : Leaf) (done : List FileVersion) (chosen : Bool) → chosen ≡ choice leaf.node
    → (IsTrue chosen → ⊥) → P done → P (done ++ chosen_one choice past leaf)
chosen_not P choice past leaf done chosen is none h =
    let test : choice leaf.node ≡ false = sym is ∙ false_from_ne_true chosen none in
    subst P (sym (append-nil done) ∙ ap (λ (b : Bool). done ++ (if b then version_behind past leaf ∷ [] else [])) (sym test)) h

-- a table's other numbers
at_other : (k q : ℕ) → q ≢ k → is_eq (nat_cmp k q) ≡ false
at_other k q apart = unsigned_tied k q ∙ different k q (λ same. apart (sym same))

-- the file's content was taken out
pub taken_out : (all past : List Leaf) (old new : Contents) (file : ℕ) → Updates nat_cmp old new file None → AreSoFar all past old → IsTakenOut all past new file
taken_out all past old new file u are = record { others = λ q apart. so_far_as all past old new q (u.2 q (at_other file q apart)) (are q); none = u.1 }

pub taken_some : (all past : List Leaf) (contents : Contents) (file : ℕ) (content : Vec ℕ Global) → AreSoFar all past contents → Some content ≡ get nat_cmp contents file → content.items ≡ last_content past file
taken_some all past contents file content are is = subst (λ (o : Option (Vec ℕ Global)). IfSome o (λ v. v.items ≡ last_content past file)) (sym is) (are file).there

-- the content of the leaf is in the table
pub put_in : (all past : List Leaf) (leaf : Leaf) (old new : Contents) (content : Vec ℕ Global) → Updates nat_cmp old new leaf.node.pnode (Some content) → content.items ≡ laid (last_content past leaf.node.pnode) leaf
    → IsTakenOut all past old leaf.node.pnode → AreSoFar all (past ++ leaf ∷ []) new
put_in all past leaf old new content u made taken =
    so_far_on all past leaf old new taken (λ q apart. u.2 q (at_other leaf.node.pnode q apart)) (record {
      there = subst (λ (o : Option (Vec ℕ Global)). IfSome o (λ v. v.items ≡ last_content (past ++ leaf ∷ []) leaf.node.pnode)) (sym u.1) (made ∙ sym (content_is past leaf leaf.node.pnode refl));
      gone = subst (λ (o : Option (Vec ℕ Global)). IfNone o ((last_content (past ++ leaf ∷ []) leaf.node.pnode ≡ []) ⊎ (last_version all leaf.node.pnode ≤ last_version (past ++ leaf ∷ []) leaf.node.pnode))) (sym u.1) tt;
    })

-- no leaf of the file is behind
pub put_not : (all past : List Leaf) (leaf : Leaf) (contents : Contents) → (last_version all leaf.node.pnode == leaf.node.version) ≡ true → IsTakenOut all past contents leaf.node.pnode
    → AreSoFar all (past ++ leaf ∷ []) contents
put_not all past leaf contents end taken =
    let most : last_version all leaf.node.pnode ≤ last_version (past ++ leaf ∷ []) leaf.node.pnode = omega (arith, same_numbers (last_version all leaf.node.pnode) leaf.node.version end, last_is past leaf leaf.node.pnode refl) in
    so_far_on all past leaf contents contents taken (λ q apart. refl) (record {
      there = subst (λ (o : Option (Vec ℕ Global)). IfSome o (λ v. v.items ≡ last_content (past ++ leaf ∷ []) leaf.node.pnode)) (sym taken.none) tt;
      gone = subst (λ (o : Option (Vec ℕ Global)). IfNone o ((last_content (past ++ leaf ∷ []) leaf.node.pnode ≡ []) ⊎ (last_version all leaf.node.pnode ≤ last_version (past ++ leaf ∷ []) leaf.node.pnode))) (sym taken.none) (inr most);
    })
