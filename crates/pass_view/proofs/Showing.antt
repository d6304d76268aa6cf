-- The edges that leave nodes in ascending order.
use Rattle.std.proofs.Common.{ℕ, ◌≡◌, ◌<◌, ◌+◌, ◌⊎◌, inl, inr, sym, ap, ◌∙◌, subst, List, [], ◌∷◌, ◌++◌, length, take, get_or, append_assoc, arith, Ordering}
use Rattle.std.specs.Prelude.{map, Contains}
use Rattle.std.specs.List.{AllByRecursion}
use Rattle.std.specs.List.Sorted.{IsStrictlySortedBy}
use Rattle.std.specs.Ordering.{ordering_then}
use Rattle.std.specs.declared.cmp.Ordering.TheVariants.{Less}
use Rattle.std.proofs.lemmas.Cmp.{tied_itself}
use Rattle.std.proofs.lemmas.List.{get_or-take, get_or_default, length-take, map-append, take_more}
use Rattle.std.proofs.lemmas.List.Elements.{Contains-append_cases, Contains-append_left, Contains-append_right, Contains-push, Contains-push_cases}
use Rattle.std.proofs.lemmas.Map.Keys.{Less-from_sorted}
use Rattle.pass_entry.specs.declared.objects.Node.{Node}
use Rattle.pass_entry.specs.declared.record.Record.{Record}
use Rattle.pass_entry.proofs.Places.{Contains-behind, contains_none}
use Rattle.pass_plain.specs.Graphs.{IsEdge}
use Rattle.pass_waldo.specs.Lookups.{AreAll}
use Rattle.pass_waldo.specs.Orders.{node_cmp}
use Rattle.pass_waldo.proofs.Indexing.{node_cmp_total}
use Rattle.pass_query.proofs.Elements.{first_there}
use Rattle.pass_view.specs.Views.{edge_cmp, edges_of, ends_of}
use Rattle.pass_view.specs.declared.picture.Link.{Link}

either : {X : Type 0} (x : X) (xs : List X) (y : X) → Contains (x ∷ xs) y → (x ≡ y) ⊎ Contains xs y
either x xs y h = elim (Contains-append_cases (x ∷ []) xs y h) [
  | inl here ↦ elim (Contains-push_cases [] x y here) [ inl none ↦ (let e = none.1 in absurd (omega (arith, e))) | inr is ↦ inl is ]
  | inr there ↦ inr there
]

all_of : {X : Type 0} (P : X → Type 0) (xs : List X) → ((x : X) → Contains xs x → P x) → AllByRecursion P xs
all_of P [] each = tt
all_of P (x ∷ xs) each = (each x (first_there x xs), all_of P xs (λ y h. each y (Contains-behind x xs y h)))

all_both : {X : Type 0} (P : X → Type 0) (xs ys : List X) → AllByRecursion P xs → AllByRecursion P ys → AllByRecursion P (xs ++ ys)
all_both P [] ys all more = more
all_both P (x ∷ xs) ys all more = (all.0, all_both P xs ys all.1 more)

-- two rows one behind the other, where all of the first is below all of the second
sorted_both : {X : Type 0} (R : X → X → Ordering) (xs ys : List X) → IsStrictlySortedBy R xs → IsStrictlySortedBy R ys → ((x y : X) → Contains xs x → Contains ys y → R x y ≡ Less) → IsStrictlySortedBy R (xs ++ ys)
unfolding IsStrictlySortedBy
sorted_both R [] ys up more below = more
sorted_both R (x ∷ xs) ys up more below =
    (all_both (λ y. R x y ≡ Less) xs ys up.0 (all_of (λ y. R x y ≡ Less) ys (λ y h. below x y (first_there x xs) h)), sorted_both R xs ys up.1 more (λ a b h g. below a b (Contains-behind x xs a h) g))

module _ (n : Node) where
  abbrev pub from : Node → Node × Node
  from s = (n, s)

  same_target : (a b : Node) → node_cmp a b ≡ Less → edge_cmp (from a) (from b) ≡ Less
  same_target a b less = ap (λ o. ordering_then o (node_cmp a b)) (tied_itself node_cmp_total n) ∙ less

  below_from : (a : Node) (row : List Node) → AllByRecursion (λ b. node_cmp a b ≡ Less) row → AllByRecursion (λ e. edge_cmp (from a) e ≡ Less) (map from row)
  below_from a [] all = tt
  below_from a (b ∷ row) all = (same_target a b all.0, below_from a row all.1)

  sorted_from : (row : List Node) → IsStrictlySortedBy node_cmp row → IsStrictlySortedBy edge_cmp (map from row)
  unfolding IsStrictlySortedBy
  sorted_from [] up = tt
  sorted_from (a ∷ row) up = (below_from a row up.0, sorted_from row up.1)

  in_from : (row : List Node) (s : Node) → Contains row s → Contains (map from row) (from s)
  in_from [] s h = absurd (contains_none s h)
  in_from (a ∷ row) s h = elim (either a row s h) [
    | inl is ↦ subst (λ x. Contains (map from (a ∷ row)) (from x)) is (first_there (from a) (map from row))
    | inr there ↦ Contains-behind (from a) (map from row) (from s) (in_from row s there)
  ]

  of_from : (row : List Node) (e : Node × Node) → Contains (map from row) e → (e.0 ≡ n) × Contains row e.1
  of_from [] e h = absurd (contains_none e h)
  of_from (a ∷ row) e h = elim (either (from a) (map from row) e h) [
    | inl is ↦ (ap (λ (x : Node × Node). x.0) (sym is), subst (λ x. Contains (a ∷ row) x) (ap (λ (x : Node × Node). x.1) is) (first_there a row))
    | inr there ↦ (let z = of_from row e there in (z.0, Contains-behind a row e.1 z.1))
  ]

module _ (list : List Record) where
  abbrev pub Leaves : List Node → Node × Node → Type 0
  Leaves nodes e = Contains nodes e.0 × IsEdge list e.0 e.1

  -- the edges that leave one more node, which is above those before it
  pub edges_more : (before : List Node) (n : Node) (edges : List (Node × Node)) (row : List Node) → ((m : Node) → Contains before m → node_cmp m n ≡ Less)
      → AreAll edge_cmp edges (Leaves before) → AreAll node_cmp row (λ s. IsEdge list n s) → AreAll edge_cmp (edges ++ map (from n) row) (Leaves (before ++ n ∷ []))
  edges_more before n edges row above all are = record {
    ascending = sorted_both edge_cmp edges (map (from n) row) all.ascending (sorted_from n row are.ascending) (λ e f h g. apart e f ((all.all e).0 h) (of_from n row f g));
    all = λ e. (sound e, whole e);
  }
    where
      apart : (e f : Node × Node) → Leaves before e → (f.0 ≡ n) × Contains row f.1 → edge_cmp e f ≡ Less
      apart e f old new = ap (λ o. ordering_then o (node_cmp e.1 f.1)) (ap (node_cmp e.0) new.0 ∙ above e.0 old.0)

      sound : (e : Node × Node) → Contains (edges ++ map (from n) row) e → Leaves (before ++ n ∷ []) e
      sound e h = elim (Contains-append_cases edges (map (from n) row) e h) [
        | inl old ↦ (let z = (all.all e).0 old in (Contains-append_left before (n ∷ []) e.0 z.0, z.1))
        | inr new ↦ (let z = of_from n row e new in (subst (λ x. Contains (before ++ n ∷ []) x) (sym z.0) (Contains-push before n), subst (λ x. IsEdge list x e.1) (sym z.0) ((are.all e.1).0 z.1)))
      ]

      whole : (e : Node × Node) → Leaves (before ++ n ∷ []) e → Contains (edges ++ map (from n) row) e
      whole e leaves = elim (Contains-push_cases before n e.0 leaves.0) [
        | inl old ↦ Contains-append_left edges (map (from n) row) e ((all.all e).1 (old, leaves.1))
        | inr is ↦ Contains-append_right edges (map (from n) row) e
            (subst (λ x. Contains (map (from n) row) (x, e.1)) is (in_from n row e.1 ((are.all e.1).1 (subst (λ x. IsEdge list x e.1) (sym is) leaves.1))))
      ]

  pub no_edges : AreAll edge_cmp [] (Leaves [])
  unfolding IsStrictlySortedBy
  no_edges = record { ascending = tt; all = λ e. ((λ h. absurd (contains_none e h)), (λ leaves. absurd (contains_none e.0 leaves.0))) }

-- what stands before a place of a row in ascending order is below what stands there
pub below_place : (nodes : List Node) → IsStrictlySortedBy node_cmp nodes → (i : ℕ) (n : Node) → i < length nodes → n ≡ get_or nodes i n → (m : Node) → Contains (take i nodes) m → node_cmp m n ≡ Less
below_place nodes up i n within at m (k, low, is) =
    let long = length-take i nodes in
    let under : k < i = omega (arith, low, long, within) in
    let here : get_or nodes k m ≡ m = sym (get_or-take i nodes k m under) ∙ is in
    ap (λ x. node_cmp x n) (sym here) ∙ ap (node_cmp (get_or nodes k m)) (at ∙ same_there) ∙ Less-from_sorted node_cmp nodes k i m up under within
  where
    same_there : get_or nodes i n ≡ get_or nodes i m
    same_there = get_or_default nodes i n m within

-- one more edge behind those of the sources before it
pub link_added : (links : List Link) (link : Link) (node : Node) (before : List (Node × Node)) (sources : List Node) (k : ℕ) (s : Node) → k < length sources → s ≡ get_or sources k s
    → link.target ≡ node → link.source ≡ s → edges_of links ≡ before ++ map (from node) (take k sources) → edges_of (links ++ link ∷ []) ≡ before ++ map (from node) (take (k + 1) sources)
link_added links link node before sources k s within at target source are =
    map-append ends_of links (link ∷ []) ∙ ap (λ es. es ++ ends_of link ∷ []) are ∙ append_assoc before (map (from node) (take k sources)) (ends_of link ∷ [])
    ∙ ap (λ es. before ++ es) (ap (λ e. map (from node) (take k sources) ++ e ∷ []) ends ∙ sym more)
  where
    ends : ends_of link ≡ from node s
    ends = λ i. (target i, source i)

    more : map (from node) (take (k + 1) sources) ≡ map (from node) (take k sources) ++ from node s ∷ []
    more = ap (map (from node)) (take_more sources k s within ∙ ap (λ x. take k sources ++ x ∷ []) (sym at)) ∙ map-append (from node) (take k sources) (s ∷ [])
