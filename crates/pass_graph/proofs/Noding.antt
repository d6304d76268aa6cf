-- The nodes of a well logged list are each made once.
use Rattle.std.proofs.Common.{ℕ, ◌≡◌, ◌≤◌, ◌<◌, ◌+◌, ◌==◌, Bool, true, false, not, ◌⊎◌, inl, inr, refl, sym, ap, ◌∙◌, subst, List, [], ◌∷◌, ◌++◌, arith}
use Rattle.std.specs.Prelude.{Option, Some, None, is_some, nat_le, Contains, if◌then◌else◌}
use Rattle.std.specs.Cmp.{IsEquivalence}
use Rattle.std.specs.List.{list_any, cons_option, IsDistinct}
use Rattle.std.proofs.lemmas.Bool.Decides.{nat_tests}
use Rattle.std.proofs.lemmas.List.Elements.{Contains-push, Contains-push_cases, Contains-append_left, filter_map-append}
use Rattle.std.proofs.lemmas.Map.Keys.{IsDistinct-push}
use Rattle.std.proofs.lemmas.Map.Views.{Contains-from_any}
use Rattle.std.proofs.lemmas.Bool.{false_from_ne_true}
use Rattle.std.proofs.lemmas.List.{append-nil}
use Rattle.pass_entry.specs.declared.objects.Node.{Node}
use Rattle.pass_entry.specs.declared.record.Record.{Record}
use Rattle.pass_entry.specs.declared.record.Record.TheVariants as log
use Rattle.pass_entry.specs.declared.record.FlawReason.TheVariants as flaw
use Rattle.pass_plain.specs.Versions.{same_node}
use Rattle.pass_plain.specs.WellLogged.{kind_of, current_of, is_known, flaw_of}
use Rattle.pass_plain.proofs.Lists.{same_numbers, same_itself, true_left, true_right, not_false, some_is}
use Rattle.pass_plain.proofs.Flaws.{unflawed}
use Rattle.pass_graph.specs.ListRanks.{made_node, graph_nodes, HasNode, NodesLaw}
use Rattle.pass_graph.proofs.Logging.{kind_next, version_next}
use Rattle.pass_graph.proofs.Ranking.{rises, good_version, logged_induction}

pub same_node_is : (a b : Node) → same_node a b ≡ true → a ≡ b
same_node_is a b is =
    let p : a.pnode ≡ b.pnode = same_numbers a.pnode b.pnode (true_left (a.pnode == b.pnode) (a.version == b.version) is) in
    let v : a.version ≡ b.version = same_numbers a.version b.version (true_right (a.pnode == b.pnode) (a.version == b.version) is) in
    λ i. record { pnode = p i; version = v i }

pub same_node_equiv : IsEquivalence same_node
same_node_equiv = record {
  refl = λ a. grind (arith, nat_tests);
  symm = λ a b. grind (arith, nat_tests);
  congr = λ a b c is. ap (λ n. same_node n c) (same_node_is a b is);
}

record IsNoded (list : List Record) : Type 0 where
  low : (o : ℕ) → 1 ≤ current_of list o
  unknown : (o : ℕ) → is_known list o ≡ false → current_of list o ≡ 1
  listed : (n : Node) → Contains (graph_nodes list) n → HasNode list n
  made : (n : Node) → HasNode list n → Contains (graph_nodes list) n
  distinct : IsDistinct same_node (graph_nodes list)

none_noded : IsNoded []
unfolding IsDistinct
none_noded = record {
  low = λ o. omega arith;
  unknown = λ o h. refl;
  listed = λ n h. let z = h.1 in absurd (omega (arith, z));
  made = λ n h. absurd (let z = h.known in cc);
  distinct = tt;
}

-- a known object stays one
pub known_on : (list : List Record) (r : Record) (o : ℕ) → is_known list o ≡ true → is_known (list ++ r ∷ []) o ≡ true
known_on list (log.Object p k) o known = ap is_some (kind_next list (log.Object p k) o) ∙ at_test (p == o)
  where
    at_test : (t : Bool) → is_some (if t then Some k else kind_of list o) ≡ true
    at_test true = refl
    at_test false = known
known_on list (log.Name p name) o known = ap is_some (kind_next list (log.Name p name) o) ∙ known
known_on list (log.Attr n attr value) o known = ap is_some (kind_next list (log.Attr n attr value) o) ∙ known
known_on list (log.Input t n) o known = ap is_some (kind_next list (log.Input t n) o) ∙ known
known_on list (log.Version n) o known = ap is_some (kind_next list (log.Version n) o) ∙ known
known_on list (log.Size p size) o known = ap is_some (kind_next list (log.Size p size) o) ∙ known
known_on list (log.Digest p block sum) o known = ap is_some (kind_next list (log.Digest p block sum) o) ∙ known
known_on list (log.Ceiling p) o known = ap is_some (kind_next list (log.Ceiling p) o) ∙ known

grows : (list : List Record) (r : Record) → flaw_of list r ≡ None → (n : Node) → HasNode list n → HasNode (list ++ r ∷ []) n
grows list r fine n h = record {
  known = known_on list r n.pnode h.known;
  low = h.low;
  come = let z = h.come in let y = rises list r fine n.pnode in omega (arith, z, y);
}

-- a record that makes no node leaves kinds and versions
still : (list more : List Record) (n : Node) → kind_of more n.pnode ≡ kind_of list n.pnode → current_of more n.pnode ≡ current_of list n.pnode → HasNode more n → HasNode list n
still list more n kinds versions h = record {
  known = ap is_some (sym kinds) ∙ h.known;
  low = h.low;
  come = let z = h.come in omega (arith, z, versions);
}

-- a node of the longer list is an old one, or the one that the record makes
back : (list : List Record) (r : Record) → IsNoded list → flaw_of list r ≡ None → (n : Node) → HasNode (list ++ r ∷ []) n → HasNode list n ⊎ (made_node r ≡ Some n)
back list (log.Object p k) s fine n h = at_test (p == n.pnode) refl
  where
    new : is_known list p ≡ false
    new = (unflawed (is_known list p) flaw.Known _ fine).0

    at_test : (t : Bool) → (p == n.pnode) ≡ t → HasNode list n ⊎ (made_node (log.Object p k) ≡ Some n)
    at_test true same =
        let here : p ≡ n.pnode = same_numbers p n.pnode same in
        let one = s.unknown p new in let z = version_next list (log.Object p k) n.pnode in let y = ap (current_of list) here in
        let low = h.low in let come = h.come in
        let v : 1 ≡ n.version = omega (arith, one, z, y, low, come) in
        inr (λ i. Some (record { pnode = here i; version = v i }))
    at_test false differ = inl (still list (list ++ log.Object p k ∷ []) n (kind_next list (log.Object p k) n.pnode ∙ ap (λ b. if b then Some k else kind_of list n.pnode) differ) (version_next list (log.Object p k) n.pnode) h)
back list (log.Version m) s fine n h = at_test (m.pnode == n.pnode) refl
  where
    next : m.version ≡ current_of list m.pnode + 1
    next = good_version list m fine

    known : is_known list m.pnode ≡ true
    known = not_false (is_known list m.pnode) (unflawed (not (is_known list m.pnode)) flaw.Unknown _ fine).0

    at_test : (t : Bool) → (m.pnode == n.pnode) ≡ t → HasNode list n ⊎ (made_node (log.Version m) ≡ Some n)
    at_test true same = by_version (nat_le n.version (current_of list n.pnode)) refl
      where
        here : m.pnode ≡ n.pnode
        here = same_numbers m.pnode n.pnode same

        most : n.version ≤ m.version
        most = let z = version_next list (log.Version m) n.pnode ∙ ap (λ b. if b then m.version else current_of list n.pnode) same in let y = h.come in omega (arith, z, y)

        by_version : (b : Bool) → nat_le n.version (current_of list n.pnode) ≡ b → HasNode list n ⊎ (made_node (log.Version m) ≡ Some n)
        by_version true is = inl (record { known = ap (is_known list) (sym here) ∙ known; low = h.low; come = grind (arith, nat_tests) })
        by_version false is =
            let past : current_of list n.pnode < n.version = grind (arith, nat_tests) in
            let y = ap (current_of list) here in
            let v : m.version ≡ n.version = omega (arith, past, most, next, y) in
            inr (λ i. Some (record { pnode = here i; version = v i }))
    at_test false differ = inl (still list (list ++ log.Version m ∷ []) n (kind_next list (log.Version m) n.pnode) (version_next list (log.Version m) n.pnode ∙ ap (λ b. if b then m.version else current_of list n.pnode) differ) h)
back list (log.Name p name) s fine n h = inl (still list (list ++ log.Name p name ∷ []) n (kind_next list (log.Name p name) n.pnode) (version_next list (log.Name p name) n.pnode) h)
back list (log.Attr m attr value) s fine n h = inl (still list (list ++ log.Attr m attr value ∷ []) n (kind_next list (log.Attr m attr value) n.pnode) (version_next list (log.Attr m attr value) n.pnode) h)
back list (log.Input t m) s fine n h = inl (still list (list ++ log.Input t m ∷ []) n (kind_next list (log.Input t m) n.pnode) (version_next list (log.Input t m) n.pnode) h)
back list (log.Size p size) s fine n h = inl (still list (list ++ log.Size p size ∷ []) n (kind_next list (log.Size p size) n.pnode) (version_next list (log.Size p size) n.pnode) h)
back list (log.Digest p block sum) s fine n h = inl (still list (list ++ log.Digest p block sum ∷ []) n (kind_next list (log.Digest p block sum) n.pnode) (version_next list (log.Digest p block sum) n.pnode) h)
back list (log.Ceiling p) s fine n h = inl (still list (list ++ log.Ceiling p ∷ []) n (kind_next list (log.Ceiling p) n.pnode) (version_next list (log.Ceiling p) n.pnode) h)

-- the node that a flawless record makes is one of the longer list, and none of the shorter one
record IsNewNode (list : List Record) (r : Record) (n : Node) : Type 0 where
  there : HasNode (list ++ r ∷ []) n
  new : HasNode list n → ⊥

new_node : (list : List Record) (r : Record) → IsNoded list → flaw_of list r ≡ None → (n : Node) → made_node r ≡ Some n → IsNewNode list r n
new_node list (log.Object p k) s fine n is =
    let p_is : p ≡ n.pnode = cc in
    let v_is : 1 ≡ n.version = cc in
    let new : is_known list p ≡ false = (unflawed (is_known list p) flaw.Known _ fine).0 in
    let low = s.low n.pnode in let z = version_next list (log.Object p k) n.pnode in
    record {
      there = record {
        known = ap is_some (kind_next list (log.Object p k) n.pnode) ∙ ap (λ o. is_some (if p == o then Some k else kind_of list o)) (sym p_is) ∙ ap (λ b. is_some (if b then Some k else kind_of list p)) (same_itself p);
        low = omega (arith, v_is);
        come = omega (arith, v_is, low, z);
      };
      new = λ h. let y : true ≡ false = sym h.known ∙ ap (is_known list) (sym p_is) ∙ new in cc;
    }
new_node list (log.Version m) s fine n is =
    let same : m ≡ n = cc in
    let next : m.version ≡ current_of list m.pnode + 1 = good_version list m fine in
    let known : is_known list m.pnode ≡ true = not_false (is_known list m.pnode) (unflawed (not (is_known list m.pnode)) flaw.Unknown _ fine).0 in
    let low = s.low m.pnode in
    let z = version_next list (log.Version m) m.pnode ∙ ap (λ b. if b then m.version else current_of list m.pnode) (same_itself m.pnode) in
    subst (IsNewNode list (log.Version m)) same (record {
      there = record {
        known = known_on list (log.Version m) m.pnode known;
        low = omega (arith, next, low);
        come = omega (arith, z);
      };
      new = λ h. let y = h.come in omega (arith, y, next);
    })
new_node list _ s fine n is = absurd (cc)

module _ (list : List Record) (r : Record) (s : IsNoded list) (fine : flaw_of list r ≡ None) where
  abbrev more : List Record
  more = list ++ r ∷ []

  low_next : (o : ℕ) → 1 ≤ current_of more o
  low_next o = let z = s.low o in let y = rises list r fine o in omega (arith, z, y)

  nodes_next : graph_nodes more ≡ graph_nodes list ++ graph_nodes (r ∷ [])
  nodes_next = filter_map-append made_node list (r ∷ [])

  -- where the record makes no node
  quiet_next : made_node r ≡ None → ((o : ℕ) → is_known more o ≡ false → current_of more o ≡ 1) → IsNoded more
  quiet_next none unknown =
      let same : graph_nodes more ≡ graph_nodes list = nodes_next ∙ ap (λ o. graph_nodes list ++ cons_option o []) none ∙ append-nil (graph_nodes list) in
      record {
        low = low_next;
        unknown = unknown;
        listed = λ n h. grows list r fine n (s.listed n (subst (λ xs. Contains xs n) same h));
        made = λ n h. elim (back list r s fine n h) [ inl old ↦ subst (λ xs. Contains xs n) (sym same) (s.made n old) | inr is ↦ absurd (let z : ◌≡◌ {A = Option Node} None (Some n) = sym none ∙ is in cc) ];
        distinct = subst (IsDistinct same_node) (sym same) s.distinct;
      }

  made_next : (m : Node) → made_node r ≡ Some m → ((o : ℕ) → is_known more o ≡ false → current_of more o ≡ 1) → IsNoded more
  made_next m makes unknown =
      let same : graph_nodes more ≡ graph_nodes list ++ m ∷ [] = nodes_next ∙ ap (λ o. graph_nodes list ++ cons_option o []) makes in
      let w = new_node list r s fine m makes in
      record {
        low = low_next;
        unknown = unknown;
        listed = λ n h. elim (Contains-push_cases (graph_nodes list) m n (subst (λ xs. Contains xs n) same h)) [ inl old ↦ grows list r fine n (s.listed n old) | inr is ↦ subst (HasNode more) is w.there ];
        made = λ n h. elim (back list r s fine n h) [
          | inl old ↦ subst (λ xs. Contains xs n) (sym same) (Contains-append_left (graph_nodes list) (m ∷ []) n (s.made n old))
          | inr is ↦ let at : m ≡ n = some_is m n (sym makes ∙ is) in subst (λ xs. Contains xs n) (sym same) (subst (λ x. Contains (graph_nodes list ++ m ∷ []) x) at (Contains-push (graph_nodes list) m))
        ];
        distinct = subst (IsDistinct same_node) (sym same) (IsDistinct-push same_node_equiv (graph_nodes list) m s.distinct
            (false_from_ne_true (list_any (same_node m) (graph_nodes list)) (λ h. w.new (s.listed m (Contains-from_any same_node_is m (graph_nodes list) h)))));
      }

noded_next : (list : List Record) (r : Record) → IsNoded list → flaw_of list r ≡ None → IsNoded (list ++ r ∷ [])
noded_next list (log.Object p k) s fine = made_next list (log.Object p k) s fine (record { pnode = p; version = 1 }) refl (λ o none. version_next list (log.Object p k) o ∙ s.unknown o (at_test (p == o) o (sym (ap is_some (kind_next list (log.Object p k) o)) ∙ none)))
  where
    at_test : (t : Bool) (o : ℕ) → is_some (if t then Some k else kind_of list o) ≡ false → is_known list o ≡ false
    at_test true o is = absurd (cc)
    at_test false o is = is
noded_next list (log.Version m) s fine = made_next list (log.Version m) s fine m refl (λ o none. version_next list (log.Version m) o ∙ at_test (m.pnode == o) o refl (sym (ap is_some (kind_next list (log.Version m) o)) ∙ none))
  where
    known : is_known list m.pnode ≡ true
    known = not_false (is_known list m.pnode) (unflawed (not (is_known list m.pnode)) flaw.Unknown _ fine).0

    at_test : (t : Bool) (o : ℕ) → (m.pnode == o) ≡ t → is_known list o ≡ false → (if t then m.version else current_of list o) ≡ 1
    at_test true o same none = absurd (let z : true ≡ false = sym known ∙ ap (is_known list) (same_numbers m.pnode o same) ∙ none in cc)
    at_test false o differ none = s.unknown o none
noded_next list (log.Name p name) s fine = quiet_next list (log.Name p name) s fine refl (λ o none. version_next list (log.Name p name) o ∙ s.unknown o (sym (ap is_some (kind_next list (log.Name p name) o)) ∙ none))
noded_next list (log.Attr m attr value) s fine = quiet_next list (log.Attr m attr value) s fine refl (λ o none. version_next list (log.Attr m attr value) o ∙ s.unknown o (sym (ap is_some (kind_next list (log.Attr m attr value) o)) ∙ none))
noded_next list (log.Input t m) s fine = quiet_next list (log.Input t m) s fine refl (λ o none. version_next list (log.Input t m) o ∙ s.unknown o (sym (ap is_some (kind_next list (log.Input t m) o)) ∙ none))
noded_next list (log.Size p size) s fine = quiet_next list (log.Size p size) s fine refl (λ o none. version_next list (log.Size p size) o ∙ s.unknown o (sym (ap is_some (kind_next list (log.Size p size) o)) ∙ none))
noded_next list (log.Digest p block sum) s fine = quiet_next list (log.Digest p block sum) s fine refl (λ o none. version_next list (log.Digest p block sum) o ∙ s.unknown o (sym (ap is_some (kind_next list (log.Digest p block sum) o)) ∙ none))
noded_next list (log.Ceiling p) s fine = quiet_next list (log.Ceiling p) s fine refl (λ o none. version_next list (log.Ceiling p) o ∙ s.unknown o (sym (ap is_some (kind_next list (log.Ceiling p) o)) ∙ none))

pub nodes_law : NodesLaw
nodes_law list logged =
    let s : IsNoded list = logged_induction IsNoded noded_next [] list none_noded logged in
    ((λ n. (s.listed n, s.made n)), s.distinct)
