-- The rows of an index with one more record.
use Rattle.std.proofs.Common.{ℕ, ◌≡◌, Bool, true, false, ◌⊎◌, inl, inr, refl, sym, ap, ◌∙◌, subst, List, [], ◌∷◌, ◌++◌, arith, Ordering}
use Rattle.std.specs.Prelude.{Some, None, Contains, bytes_eq, if◌then◌else◌}
use Rattle.std.specs.Cmp.{IsTotalOrder}
use Rattle.std.specs.Ordering.{nat_cmp, ordering_then}
use Rattle.std.specs.declared.cmp.Ordering.TheVariants.{Less, Equal, Greater}
use Rattle.std.specs.BTreeSet.{insert_key}
use Rattle.std.specs.List.{cons_option}
use Rattle.std.specs.List.Sorted.{IsStrictlySortedBy}
use Rattle.std.proofs.lemmas.Cmp.{nat_cmp_total, on_total, then_total}
use Rattle.std.proofs.lemmas.Map.Lookups.{exact_unsigned}
use Rattle.std.proofs.lemmas.List.Elements.{Contains-push, Contains-push_cases, Contains-append_left, filter_map-append}
use Rattle.std.proofs.lemmas.Slice.Eq.{bytes_eq-Decides}
use Rattle.std.proofs.lemmas.List.{append-nil}
use Rattle.pass_entry.specs.declared.objects.Node.{Node}
use Rattle.pass_entry.specs.declared.record.Record.{Record}
use Rattle.pass_entry.specs.declared.record.Record.TheVariants as log
use Rattle.pass_entry.proofs.Places.{contains_none}
use Rattle.pass_plain.specs.Versions.{same_node}
use Rattle.pass_plain.specs.Graphs.{IsEdge}
use Rattle.pass_plain.specs.Graphs.IsEdge.{input as by_input, version as by_version}
use Rattle.pass_graph.proofs.Logging.{no_edge, edge_cases}
use Rattle.pass_graph.proofs.Noding.{same_node_is, same_node_equiv}
use Rattle.pass_waldo.specs.Orders.{node_cmp}
use Rattle.pass_waldo.specs.Lookups.{AreAll, value_in, values_in}
use Rattle.pass_waldo.specs.Edges.{parents_of, children_of}
use Rattle.pass_waldo.specs.Texts.{files_named, values_of}
use Rattle.pass_waldo.specs.Index.{AreEdges, AreTexts, IsIndex, MakesEdge, IsQuiet}
use Rattle.pass_waldo.specs.declared.edges.Edges.{Edges}
use Rattle.pass_waldo.specs.declared.texts.Texts.{Texts}
use Rattle.pass_waldo.proofs.Sorting.{put_sorted, put_has, put_keeps, put_only}

pub node_cmp_total : IsTotalOrder node_cmp
node_cmp_total = then_total (on_total (λ (n : Node). n.pnode) nat_cmp_total) (on_total (λ (n : Node). n.version) nat_cmp_total)

pub node_exact : (a b : Node) → node_cmp a b ≡ Equal → a ≡ b
node_exact a b is = at_test (nat_cmp a.pnode b.pnode) refl is
  where
    at_test : (o : Ordering) → nat_cmp a.pnode b.pnode ≡ o → ordering_then o (nat_cmp a.version b.version) ≡ Equal → a ≡ b
    at_test Less same tied = absurd (cc)
    at_test Equal same tied =
        let p : a.pnode ≡ b.pnode = exact_unsigned a.pnode b.pnode same in
        let v : a.version ≡ b.version = exact_unsigned a.version b.version tied in
        λ i. record { pnode = p i; version = v i }
    at_test Greater same tied = absurd (cc)

-- rows

module _ {X : Type 0} {cmp : X → X → Ordering} where
  -- the same row has what the same things hold of
  pub alike : (row : List X) (P Q : X → Type 0) → ((x : X) → P x → Q x) → ((x : X) → Q x → P x) → AreAll cmp row P → AreAll cmp row Q
  alike row P Q to from all = record { ascending = all.ascending; all = λ x. ((λ h. to x ((all.all x).0 h)), (λ q. (all.all x).1 (from x q))) }

  -- a row with one more value has what that holds of too
  pub one_more : (total : IsTotalOrder cmp) (exact : (x y : X) → cmp x y ≡ Equal → x ≡ y) (row : List X) (v : X) (P Q : X → Type 0) → ((x : X) → P x → Q x) → Q v → ((x : X) → Q x → P x ⊎ (v ≡ x))
      → AreAll cmp row P → AreAll cmp (insert_key cmp row v) Q
  one_more total exact row v P Q to here from all = record {
    ascending = put_sorted total row v all.ascending;
    all = λ x. (
      (λ h. elim (put_only total row v x h) [ inl old ↦ to x ((all.all x).0 old) | inr is ↦ subst Q is here ]),
      (λ q. elim (from x q) [ inl old ↦ put_keeps total row v x ((all.all x).1 old) | inr is ↦ subst (λ y. Contains (insert_key cmp row v) y) is (put_has total exact row v) ]),
    );
  }

  nothing : (row : List X) (P : X → Type 0) → row ≡ [] → ((x : X) → P x → ⊥) → AreAll cmp row P
  unfolding IsStrictlySortedBy
  nothing row P is none = subst (λ r. AreAll cmp r P) (sym is) (record { ascending = tt; all = λ x. ((λ h. let z = h.1 in absurd (omega (arith, z))), (λ p. absurd (none x p))) })

pub none_edges : (edges : Edges) → ((n : Node) → parents_of edges n ≡ []) → ((n : Node) → children_of edges n ≡ []) → AreEdges [] edges
none_edges edges parents children = record {
  parents = λ n. nothing (parents_of edges n) (λ s. IsEdge [] n s) (parents n) (λ s e. no_edge n s e);
  children = λ n. nothing (children_of edges n) (λ t. IsEdge [] t n) (children n) (λ t e. no_edge t n e);
}

pub none_texts : (texts : Texts) → ((n : List ℕ) → files_named texts n ≡ []) → ((n : List ℕ) → values_of texts n ≡ []) → AreTexts [] texts
none_texts texts files values = record {
  files = λ name. nothing (files_named texts name) (λ p. Contains [] (log.Name p name)) (files name) (λ p h. contains_none (log.Name p name) h);
  values = values;
}

pub none_indexed : (edges : Edges) (texts : Texts) → ((n : Node) → parents_of edges n ≡ []) → ((n : Node) → children_of edges n ≡ []) → ((n : List ℕ) → files_named texts n ≡ []) → ((n : List ℕ) → values_of texts n ≡ [])
    → IsIndex (record { taken = []; edges = edges; texts = texts })
none_indexed edges texts parents children files values = record { edges = none_edges edges parents children; texts = none_texts texts files values }

-- the edges of a list with one more record

module _ (list : List Record) (r : Record) where
  abbrev more : List Record
  more = list ++ r ∷ []

  old_edge : (a b : Node) → IsEdge list a b → IsEdge more a b
  old_edge a b (by_input h) = by_input (Contains-append_left list (r ∷ []) (log.Input a b) h)
  old_edge a b (by_version h same next) = by_version (Contains-append_left list (r ∷ []) (log.Version a) h) same next

  -- where the record makes one edge
  module _ (t s : Node) (makes : MakesEdge r t s) where
    new_edge : IsEdge more t s
    new_edge = elim makes [
      | inl is ↦ by_input (subst (λ x. Contains more x) is (Contains-push list r))
      | inr is ↦ by_version (subst (λ x. Contains more x) is.0 (Contains-push list r)) is.1 is.2
    ]

    -- a new edge is this one
    one_edge : (a b : Node) → IsEdge more a b → IsEdge list a b ⊎ ((t ≡ a) × (s ≡ b))
    one_edge a b e = elim (edge_cases list r a b e) [
      | inl old ↦ inl old
      | inr (inl is) ↦ inr (elim makes [
        | inl at ↦ (let z : log.Input t s ≡ log.Input a b = sym at ∙ is in let p : t ≡ a = cc in let q : s ≡ b = cc in (p, q))
        | inr at ↦ absurd (let z : log.Version t ≡ log.Input a b = sym at.0 ∙ is in cc)
      ])
      | inr (inr is) ↦ inr (elim makes [
        | inl at ↦ absurd (let z : log.Input t s ≡ log.Version a = sym at ∙ is.0 in cc)
        | inr at ↦ (
            let z : log.Version t ≡ log.Version a = sym at.0 ∙ is.0 in
            let p : t ≡ a = cc in
            let pp : t.pnode ≡ a.pnode = ap (λ (n : Node). n.pnode) p in
            let pv : t.version ≡ a.version = ap (λ (n : Node). n.version) p in
            let q : s.pnode ≡ b.pnode = at.1 ∙ pp ∙ sym is.1 in
            let v : s.version ≡ b.version = (let x = at.2 in let y = is.2 in omega (arith, x, y, pv)) in
            (p, (λ i. record { pnode = q i; version = v i }))
            )
      ])
    ]

  -- where it makes none
  none_new : ((a b : Node) → r ≡ log.Input a b → ⊥) → ((a : Node) → r ≡ log.Version a → ⊥) → (a b : Node) → IsEdge more a b → IsEdge list a b
  none_new no_input no_version a b e = elim (edge_cases list r a b e) [ inl old ↦ old | inr (inl is) ↦ absurd (no_input a b is) | inr (inr is) ↦ absurd (no_version a is.0) ]

  pub edges_stay : ((a b : Node) → r ≡ log.Input a b → ⊥) → ((a : Node) → r ≡ log.Version a → ⊥) → (edges : Edges) → AreEdges list edges → AreEdges more edges
  edges_stay no_input no_version edges are = record {
    parents = λ n. alike (parents_of edges n) (λ s. IsEdge list n s) (λ s. IsEdge more n s) (λ s e. old_edge n s e) (λ s e. none_new no_input no_version n s e) (are.parents n);
    children = λ n. alike (children_of edges n) (λ t. IsEdge list t n) (λ t. IsEdge more t n) (λ t e. old_edge t n e) (λ t e. none_new no_input no_version t n e) (are.children n);
  }

  abbrev pub put_at : Node → Node → Node → List Node → List Node
  put_at key v n row = if same_node key n then insert_key node_cmp row v else row

  pub edge_added : (t s : Node) → MakesEdge r t s → (edges put : Edges) → ((n : Node) → parents_of put n ≡ put_at t s n (parents_of edges n)) → ((n : Node) → children_of put n ≡ put_at s t n (children_of edges n))
      → AreEdges list edges → AreEdges more put
  edge_added t s makes edges put parents children are = record {
    parents = λ n. subst (λ row. AreAll node_cmp row (λ b. IsEdge more n b)) (sym (parents n)) (at_parents n (same_node t n) refl);
    children = λ n. subst (λ row. AreAll node_cmp row (λ a. IsEdge more a n)) (sym (children n)) (at_children n (same_node s n) refl);
  }
    where
      apart : (a b : Node) → same_node a b ≡ false → a ≡ b → ⊥
      apart a b differ same = let z : true ≡ false = sym (same_node_equiv.refl b) ∙ sym (ap (λ x. same_node x b) same) ∙ differ in cc

      at_parents : (n : Node) (c : Bool) → same_node t n ≡ c → AreAll node_cmp (if c then insert_key node_cmp (parents_of edges n) s else parents_of edges n) (λ b. IsEdge more n b)
      at_parents n true is =
          let here : t ≡ n = same_node_is t n is in
          one_more node_cmp_total node_exact (parents_of edges n) s (λ b. IsEdge list n b) (λ b. IsEdge more n b) (λ b e. old_edge n b e) (subst (λ x. IsEdge more x s) here (new_edge t s makes))
          (λ b e. elim (one_edge t s makes n b e) [ inl old ↦ inl old | inr at ↦ inr at.1 ]) (are.parents n)
      at_parents n false is =
          alike (parents_of edges n) (λ b. IsEdge list n b) (λ b. IsEdge more n b) (λ b e. old_edge n b e) (λ b e. elim (one_edge t s makes n b e) [ inl old ↦ old | inr at ↦ absurd (apart t n is at.0) ]) (are.parents n)

      at_children : (n : Node) (c : Bool) → same_node s n ≡ c → AreAll node_cmp (if c then insert_key node_cmp (children_of edges n) t else children_of edges n) (λ a. IsEdge more a n)
      at_children n true is =
          let here : s ≡ n = same_node_is s n is in
          one_more node_cmp_total node_exact (children_of edges n) t (λ a. IsEdge list a n) (λ a. IsEdge more a n) (λ a e. old_edge a n e) (subst (λ x. IsEdge more t x) here (new_edge t s makes))
          (λ a e. elim (one_edge t s makes a n e) [ inl old ↦ inl old | inr at ↦ inr at.0 ]) (are.children n)
      at_children n false is =
          alike (children_of edges n) (λ a. IsEdge list a n) (λ a. IsEdge more a n) (λ a e. old_edge a n e) (λ a e. elim (one_edge t s makes a n e) [ inl old ↦ old | inr at ↦ absurd (apart s n is at.1) ]) (are.children n)

  -- what texts name

  values_next : (attr : List ℕ) → values_in more attr ≡ values_in list attr ++ cons_option (value_in attr r) []
  values_next attr = filter_map-append (value_in attr) list (r ∷ [])

  quiet_values : ((attr : List ℕ) → value_in attr r ≡ None) → (attr : List ℕ) → values_in more attr ≡ values_in list attr
  quiet_values quiet attr = values_next attr ∙ ap (λ o. values_in list attr ++ cons_option o []) (quiet attr) ∙ append-nil (values_in list attr)

  quiet_files : ((p : ℕ) (name : List ℕ) → r ≡ log.Name p name → ⊥) → (name : List ℕ) (row : List ℕ) → AreAll nat_cmp row (λ p. Contains list (log.Name p name)) → AreAll nat_cmp row (λ p. Contains more (log.Name p name))
  quiet_files no_name name row =
      alike row (λ p. Contains list (log.Name p name)) (λ p. Contains more (log.Name p name)) (λ p h. Contains-append_left list (r ∷ []) (log.Name p name) h)
      (λ p h. elim (Contains-push_cases list r (log.Name p name) h) [ inl old ↦ old | inr is ↦ absurd (no_name p name is) ])

  pub texts_stay : ((p : ℕ) (name : List ℕ) → r ≡ log.Name p name → ⊥) → ((attr : List ℕ) → value_in attr r ≡ None) → (texts : Texts) → AreTexts list texts → AreTexts more texts
  texts_stay no_name quiet texts are = record {
    files = λ name. quiet_files no_name name (files_named texts name) (are.files name);
    values = λ attr. are.values attr ∙ sym (quiet_values quiet attr);
  }

  pub name_added : (p : ℕ) (name : List ℕ) → r ≡ log.Name p name → (texts put : Texts) → ((n : List ℕ) → files_named put n ≡ (if bytes_eq name n then insert_key nat_cmp (files_named texts n) p else files_named texts n)) → ((n : List ℕ) → values_of put n ≡ values_of texts n)
      → AreTexts list texts → AreTexts more put
  name_added p name is texts put files values are = record {
    files = λ n. subst (λ row. AreAll nat_cmp row (λ q. Contains more (log.Name q n))) (sym (files n)) (at_files n (bytes_eq name n) refl);
    values = λ attr. values attr ∙ are.values attr ∙ sym (quiet_values (λ a. ap (value_in a) is) attr);
  }
    where
      old_name : (n : List ℕ) (q : ℕ) → Contains list (log.Name q n) → Contains more (log.Name q n)
      old_name n q h = Contains-append_left list (r ∷ []) (log.Name q n) h

      at_files : (n : List ℕ) (c : Bool) → bytes_eq name n ≡ c → AreAll nat_cmp (if c then insert_key nat_cmp (files_named texts n) p else files_named texts n) (λ q. Contains more (log.Name q n))
      at_files n true same =
          let here : name ≡ n = (bytes_eq-Decides name n).0 same in
          one_more nat_cmp_total exact_unsigned (files_named texts n) p (λ q. Contains list (log.Name q n)) (λ q. Contains more (log.Name q n)) (old_name n)
          (subst (λ x. Contains more x) (is ∙ ap (log.Name p) here) (Contains-push list r))
          (λ q h. elim (Contains-push_cases list r (log.Name q n) h) [ inl old ↦ inl old | inr at ↦ inr (let z : log.Name p name ≡ log.Name q n = sym is ∙ at in let e : p ≡ q = cc in e) ]) (are.files n)
      at_files n false differ =
          alike (files_named texts n) (λ q. Contains list (log.Name q n)) (λ q. Contains more (log.Name q n)) (old_name n)
          (λ q h. elim (Contains-push_cases list r (log.Name q n) h) [ inl old ↦ old | inr at ↦ absurd (let z : log.Name p name ≡ log.Name q n = sym is ∙ at in let e : name ≡ n = cc in let y : true ≡ false = sym ((bytes_eq-Decides name n).1 e) ∙ differ in cc) ]) (are.files n)

  pub value_added : (n : Node) (attr value : List ℕ) → r ≡ log.Attr n attr value → (texts put : Texts) → ((a : List ℕ) → values_of put a ≡ (if bytes_eq attr a then values_of texts a ++ (n, value) ∷ [] else values_of texts a)) → ((a : List ℕ) → files_named put a ≡ files_named texts a)
      → AreTexts list texts → AreTexts more put
  value_added n attr value is texts put values files are = record {
    files = λ name. subst (λ row. AreAll nat_cmp row (λ q. Contains more (log.Name q name))) (sym (files name)) (quiet_files (λ p m at. let z : log.Attr n attr value ≡ log.Name p m = sym is ∙ at in cc) name (files_named texts name) (are.files name));
    values = λ a. values a ∙ at_values a (bytes_eq attr a) refl ∙ sym (values_next a ∙ ap (λ o. values_in list a ++ cons_option o []) (ap (value_in a) is));
  }
    where
      at_values : (a : List ℕ) (c : Bool) → bytes_eq attr a ≡ c → (if c then values_of texts a ++ (n, value) ∷ [] else values_of texts a) ≡ values_in list a ++ cons_option (if bytes_eq a attr then Some (n, value) else None) []
      at_values a true same = ap (λ xs. xs ++ (n, value) ∷ []) (are.values a) ∙ ap (λ b. values_in list a ++ cons_option (if b then Some (n, value) else None) []) (sym ((bytes_eq-Decides a attr).1 (sym ((bytes_eq-Decides attr a).0 same))))
      at_values a false differ = are.values a ∙ sym (append-nil (values_in list a)) ∙ ap (λ b. values_in list a ++ cons_option (if b then Some (n, value) else None) []) (sym (other (bytes_eq a attr) refl))
        where
          other : (b : Bool) → bytes_eq a attr ≡ b → b ≡ false
          other true same = let z : true ≡ false = sym ((bytes_eq-Decides attr a).1 (sym ((bytes_eq-Decides a attr).0 same))) ∙ differ in cc
          other false is = refl

-- a record that makes no edge and names nothing
pub quiet_stays : (list : List Record) (r : Record) → IsQuiet r → (edges : Edges) (texts : Texts) → AreEdges list edges → AreTexts list texts
    → IsIndex (record { taken = list ++ r ∷ []; edges = edges; texts = texts })
quiet_stays list r quiet edges texts es ts = record {
  edges = edges_stay list r (λ a b is. no_input r quiet a b is) (λ a is. no_version r quiet a is) edges es;
  texts = texts_stay list r (λ p name is. no_name r quiet p name is) (no_value r quiet) texts ts;
}
  where
    no_input : (x : Record) → IsQuiet x → (a b : Node) → x ≡ log.Input a b → ⊥
    no_input x q a b is = subst IsQuiet is q

    no_version : (x : Record) → IsQuiet x → (a : Node) → x ≡ log.Version a → ⊥
    no_version x q a is = subst IsQuiet is q

    no_name : (x : Record) → IsQuiet x → (p : ℕ) (name : List ℕ) → x ≡ log.Name p name → ⊥
    no_name x q p name is = subst IsQuiet is q

    no_value : (x : Record) → IsQuiet x → (attr : List ℕ) → value_in attr x ≡ None
    no_value (log.Attr n name value) q attr = absurd q
    no_value _ q attr = refl
