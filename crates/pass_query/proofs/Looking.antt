-- What one look along a row adds to a search.
use Rattle.std.proofs.Common.{ℕ, ◌≡◌, ◌<◌, ◌+◌, Bool, true, false, not, ◌&&◌, ◌||◌, refl, sym, ap, ◌∙◌, List, [], ◌∷◌, ◌++◌, length, take, get_or, cond, append_assoc}
use Rattle.std.specs.Prelude.{Some, map, filter, slice_get}
use Rattle.std.specs.List.{list_any}
use Rattle.std.specs.List.Sorted.{IsStrictlySortedBy}
use Rattle.std.specs.HashSet.{HashSet, contains}
use Rattle.std.specs.declared.hash.FoldHasher.{FoldHasher}
use Rattle.std.specs.declared.hash.BuildHasherDefault.{BuildHasherDefault}
use Rattle.std.specs.declared.cmp.Ordering.TheVariants.{Less, Equal}
use Rattle.std.proofs.lemmas.Cmp.{tied_itself}
use Rattle.std.proofs.lemmas.List.{map-append, get_or-take, append-nil}
use Rattle.std.proofs.lemmas.List.Elements.{filter_more}
use Rattle.std.proofs.lemmas.List.Folds.{list_any-append}
use Rattle.std.proofs.lemmas.Map.Keys.{Less-from_sorted}
use Rattle.std.proofs.lemmas.Option.{get_or_from_slice_get}
use Rattle.std.proofs.lemmas.Bool.{false_from_ne_true}
use Rattle.pass_entry.specs.declared.objects.Node.{Node}
use Rattle.pass_plain.specs.Versions.{same_node}
use Rattle.pass_plain.proofs.Lists.{any_at, within_take, or_none}
use Rattle.pass_graph.proofs.Noding.{same_node_is, same_node_equiv}
use Rattle.pass_graph.proofs.Adding.{first_or}
use Rattle.pass_waldo.specs.Orders.{node_cmp}
use Rattle.pass_waldo.proofs.Indexing.{node_cmp_total}
use Rattle.pass_query.specs.declared.search.Reached.{Reached}
use Rattle.pass_query.specs.Searches.{has_node, AreSeen, looked}

abbrev pub reached_at : ℕ → Node → Reached
reached_at place n = record { node = n; before = place }

abbrev pub is_new : List Reached → Node → Bool
is_new reached n = not (has_node reached n)

and_no : (b : Bool) → false ≡ b && false
and_no true = refl
and_no false = refl

-- the nodes that one look adds
abbrev pub fresh : List Reached → ℕ → List Node → List Reached
fresh old place row = map (reached_at place) (filter (is_new old) row)

-- the new nodes of a row
pub has_fresh : (old : List Reached) (place : ℕ) (row : List Node) (n : Node) → has_node (map (reached_at place) (filter (is_new old) row)) n ≡ (is_new old n && list_any (same_node n) row)
has_fresh old place [] n = and_no (is_new old n)
has_fresh old place (x ∷ xs) n = at_test (is_new old x) refl (same_node n x) refl (has_fresh old place xs n)
  where
    or_yes : (b : Bool) → b && true ≡ b
    or_yes true = refl
    or_yes false = refl

    at_test : (b : Bool) → is_new old x ≡ b → (c : Bool) → same_node n x ≡ c → has_node (fresh old place xs) n ≡ (is_new old n && list_any (same_node n) xs)
        → has_node (map (reached_at place) (cond b (x ∷ filter (is_new old) xs) (filter (is_new old) xs))) n ≡ (is_new old n && (same_node n x || list_any (same_node n) xs))
    at_test true is true same later =
        ap (λ c. c || has_node (fresh old place xs) n) same ∙ sym (ap (λ c. is_new old n && (c || list_any (same_node n) xs)) same ∙ or_yes (is_new old n) ∙ ap (is_new old) (same_node_is n x same) ∙ is)
    at_test true is false differ later = ap (λ c. c || has_node (fresh old place xs) n) differ ∙ later ∙ sym (ap (λ c. is_new old n && (c || list_any (same_node n) xs)) differ)
    at_test false known true same later =
        let old_n : is_new old n ≡ false = ap (is_new old) (same_node_is n x same) ∙ known in
        later ∙ ap (λ c. c && list_any (same_node n) xs) old_n ∙ sym (ap (λ c. c && (same_node n x || list_any (same_node n) xs)) old_n)
    at_test false known false differ later = later ∙ sym (ap (λ c. is_new old n && (c || list_any (same_node n) xs)) differ)

either : (a b : Bool) → a || (not a && b) ≡ (a || b)
either true b = refl
either false b = refl

-- the nodes after a look are those before and those of the row
pub has_looked : (old : List Reached) (place : ℕ) (row : List Node) (n : Node) → has_node (looked old place row) n ≡ (has_node old n || list_any (same_node n) row)
has_looked old place row n =
    list_any-append (λ r. same_node n r.node) old (map (reached_at place) (filter (is_new old) row))
    ∙ ap (λ c. has_node old n || c) (has_fresh old place row n) ∙ either (has_node old n) (list_any (same_node n) row)

-- a row has each node once
pub no_repeat : (row : List Node) → IsStrictlySortedBy node_cmp row → (j : ℕ) (n : Node) → j < length row → n ≡ get_or row j n → list_any (same_node n) (take j row) ≡ false
no_repeat row up j n within at = false_from_ne_true (list_any (same_node n) (take j row)) (λ any.
    let (i, x, found, same) = any_at (same_node n) (take j row) any in
    let low : i < j = within_take j i row x found in
    let less : node_cmp (get_or row i n) (get_or row j n) ≡ Less = Less-from_sorted node_cmp row i j n up low within in
    let x_is : x ≡ get_or row i n = front_at row i j x n low found in
    let here : node_cmp n n ≡ Less = ap (node_cmp n) at ∙ ap (λ y. node_cmp y (get_or row j n)) (same_node_is n x same ∙ x_is) ∙ less in
    let tied : node_cmp n n ≡ Equal = tied_itself node_cmp_total n in
    let z : Less ≡ Equal = sym here ∙ tied in cc)
  where
    front_at : (xs : List Node) (i j : ℕ) (x d : Node) → i < j → slice_get (take j xs) i ≡ Some x → x ≡ get_or xs i d
    front_at xs i j x d low found = sym (get_or_from_slice_get (take j xs) i x d found) ∙ get_or-take j xs i d low

abbrev Nodes : Type 0
Nodes = HashSet Node (BuildHasherDefault FoldHasher)

-- one more node of a row
module _ (old : List Reached) (place : ℕ) (row : List Node) (up : IsStrictlySortedBy node_cmp row) (j : ℕ) (n : Node) (within : j < length row) (at : n ≡ get_or row j n) where
  abbrev now : List Reached
  now = looked old place (take j row)

  known : has_node now n ≡ has_node old n
  known = has_looked old place (take j row) n ∙ ap (λ c. has_node old n || c) (no_repeat row up j n within at) ∙ or_none (has_node old n)

  more : looked old place (take (j + 1) row) ≡ looked old place (take j row) ++ map (reached_at place) (cond (is_new old n) (n ∷ []) [])
  more =
      ap (λ xs. old ++ map (reached_at place) xs) (filter_more (is_new old) row j n within ∙ ap (λ x. filter (is_new old) (take j row) ++ cond (is_new old x) (x ∷ []) []) (sym at))
      ∙ ap (λ xs. old ++ xs) (map-append (reached_at place) (filter (is_new old) (take j row)) (cond (is_new old n) (n ∷ []) []))
      ∙ sym (append_assoc old (map (reached_at place) (filter (is_new old) (take j row))) (map (reached_at place) (cond (is_new old n) (n ∷ []) [])))

  pub looked_new : has_node now n ≡ false → looked old place (take (j + 1) row) ≡ now ++ reached_at place n ∷ []
  looked_new new = more ∙ ap (λ b. now ++ map (reached_at place) (cond (not b) (n ∷ []) [])) (sym known ∙ new)

  pub looked_known : has_node now n ≡ true → looked old place (take (j + 1) row) ≡ now
  looked_known had = more ∙ ap (λ b. now ++ map (reached_at place) (cond (not b) (n ∷ []) [])) (sym known ∙ had) ∙ append-nil now

-- the set with the new node
pub seen_new : (reached : List Reached) (seen put : Nodes) (place : ℕ) (n : Node) → AreSeen reached seen → ((q : Node) → contains same_node put q ≡ cond (same_node n q) true (contains same_node seen q)) → AreSeen (reached ++ reached_at place n ∷ []) put
seen_new reached seen put place n are puts q =
    puts q ∙ ap (λ c. cond (same_node n q) true c) (are q) ∙ first_or (same_node n q) (has_node reached q)
    ∙ ap (λ c. has_node reached q || (c || false)) (same_node_equiv.symm n q) ∙ sym (list_any-append (λ r. same_node q r.node) reached (reached_at place n ∷ []))

-- the set with a node that it had
pub seen_known : (reached : List Reached) (seen put : Nodes) (n : Node) → AreSeen reached seen → has_node reached n ≡ true → ((q : Node) → contains same_node put q ≡ cond (same_node n q) true (contains same_node seen q)) → AreSeen reached put
seen_known reached seen put n are had puts q = puts q ∙ at_test (same_node n q) refl
  where
    at_test : (b : Bool) → same_node n q ≡ b → cond b true (contains same_node seen q) ≡ has_node reached q
    at_test true same = sym (ap (has_node reached) (sym (same_node_is n q same)) ∙ had)
    at_test false differ = are q

-- the set of one node alone
pub only : (n : Node) (none : Node → Bool) → ((q : Node) → none q ≡ false) → (q : Node) → cond (same_node n q) true (none q) ≡ has_node (reached_at 0 n ∷ []) q
only n none empty q = ap (λ c. cond (same_node n q) true c) (empty q) ∙ first_or (same_node n q) false ∙ ap (λ c. c || false) (same_node_equiv.symm n q)
