-- The elements of a list and their places, and lists of nodes and of edges that have none twice.
use Rattle.std.proofs.Common.{ℕ, ◌≡◌, ◌<◌, ◌+◌, true, false, refl, sym, ap, ◌∙◌, List, [], ◌∷◌, length, get_or, arith, Ordering}
use Rattle.std.specs.Prelude.{Some, slice_get, Contains}
use Rattle.std.specs.Cmp.{IsEquivalence, and_equiv, on_equiv}
use Rattle.std.specs.List.{IsDistinct, AllByRecursion}
use Rattle.std.specs.List.Sorted.{IsStrictlySortedBy, IsSorted}
use Rattle.std.specs.Ordering.{ordering_reverse, is_lt}
use Rattle.std.specs.declared.cmp.Ordering.TheVariants.{Less, Equal, Greater}
use Rattle.std.proofs.lemmas.Cmp.{tied_itself}
use Rattle.std.proofs.lemmas.Map.Keys.{IsDistinct-from_apart, IsDistinct-cons, apart_from_distinct, sorted_from_all_adjacent, sorted_head, sorted_tail}
use Rattle.std.proofs.lemmas.Option.{get_or_from_slice_get}
use Rattle.std.proofs.lemmas.Bool.{false_from_ne_true}
use Rattle.pass_entry.specs.declared.objects.Node.{Node}
use Rattle.pass_plain.specs.Versions.{same_node}
use Rattle.pass_plain.proofs.Lists.{is_place, some_is, true_left, true_right}
use Rattle.pass_graph.specs.Logged.{same_pair}
use Rattle.pass_graph.proofs.Noding.{same_node_is, same_node_equiv}
use Rattle.pass_waldo.specs.Orders.{node_cmp}
use Rattle.pass_waldo.proofs.Indexing.{node_cmp_total, node_exact}
use Rattle.pass_query.specs.Searches.{HasOnce}

pub one_value : {X : Type 0} (xs : List X) (k : ℕ) (x y : X) → slice_get xs k ≡ Some x → slice_get xs k ≡ Some y → x ≡ y
one_value xs k x y at also = some_is x y (sym at ∙ also)

pub first_there : {X : Type 0} (x : X) (xs : List X) → Contains (x ∷ xs) x
first_there x xs = (0, omega arith, refl)

-- a sorted list that has no node twice is strictly sorted
pub strictly : (v : List Node) (d : Node) → IsSorted node_cmp v → IsDistinct same_node v → IsStrictlySortedBy node_cmp v
strictly v d up apart = sorted_from_all_adjacent node_cmp_total v d (λ k within. at_test k within (node_cmp (get_or v k d) (get_or v (k + 1) d)) refl)
  where
    at_test : (k : ℕ) → k + 1 < length v → (o : Ordering) → node_cmp (get_or v k d) (get_or v (k + 1) d) ≡ o → node_cmp (get_or v k d) (get_or v (k + 1) d) ≡ Less
    at_test k within Less is = is
    at_test k within Equal is =
        let same : get_or v k d ≡ get_or v (k + 1) d = node_exact (get_or v k d) (get_or v (k + 1) d) is in
        let differ : same_node (get_or v k d) (get_or v (k + 1) d) ≡ false = apart_from_distinct same_node v k (k + 1) d apart (omega arith) within in
        let z : true ≡ false = sym (ap (same_node (get_or v k d)) (sym same) ∙ same_node_equiv.refl (get_or v k d)) ∙ differ in
        absurd (cc)
    at_test k within Greater is =
        let turned : node_cmp (get_or v (k + 1) d) (get_or v k d) ≡ Less = node_cmp_total.antisymm (get_or v (k + 1) d) (get_or v k d) ∙ ap ordering_reverse is in
        let z : true ≡ false = sym (ap is_lt turned) ∙ up k d (omega arith) within in
        absurd (cc)

pub differ : (a b : Node) → node_cmp a b ≡ Less → same_node a b ≡ false
differ a b less = false_from_ne_true (same_node a b) (λ same.
    let tied : node_cmp a a ≡ Equal = tied_itself node_cmp_total a in
    let z : Less ≡ Equal = sym less ∙ ap (node_cmp a) (sym (same_node_is a b same)) ∙ tied in cc)

all_apart : (x : Node) (xs : List Node) → AllByRecursion (λ y. node_cmp x y ≡ Less) xs → AllByRecursion (λ y. same_node x y ≡ false) xs
all_apart x [] all = tt
all_apart x (y ∷ xs) all = (differ x y all.0, all_apart x xs all.1)

-- what ascends has no node twice
pub sorted_once : (xs : List Node) → IsStrictlySortedBy node_cmp xs → IsDistinct same_node xs
unfolding IsDistinct
sorted_once [] up = tt
sorted_once (x ∷ xs) up = IsDistinct-cons same_node x xs (all_apart x xs (sorted_head node_cmp x xs up)) (sorted_once xs (sorted_tail node_cmp x xs up))

-- equality of edges
pub same_pair_is : (a b : Node × Node) → same_pair a b ≡ true → a ≡ b
same_pair_is a b is =
    let one : a.0 ≡ b.0 = same_node_is a.0 b.0 (true_left (same_node a.0 b.0) (same_node a.1 b.1) is) in
    let two : a.1 ≡ b.1 = same_node_is a.1 b.1 (true_right (same_node a.0 b.0) (same_node a.1 b.1) is) in
    λ i. (one i, two i)

pub same_pair_equiv : IsEquivalence same_pair
same_pair_equiv = and_equiv (on_equiv (λ (e : Node × Node). e.0) same_node_equiv) (on_equiv (λ (e : Node × Node). e.1) same_node_equiv)

-- a list that has no edge twice
pub distinct : (edges : List (Node × Node)) → HasOnce edges → IsDistinct same_pair edges
distinct edges once = IsDistinct-from_apart same_pair edges (λ i j d low within. false_from_ne_true (same_pair (get_or edges i d) (get_or edges j d)) (λ same.
    let (e, at) = is_place edges i (omega (arith, low, within)) in
    let (f, there) = is_place edges j within in
    let is : e ≡ f = sym (get_or_from_slice_get edges i e d at) ∙ same_pair_is (get_or edges i d) (get_or edges j d) same ∙ get_or_from_slice_get edges j f d there in
    let z : i ≡ j = once i j f (at ∙ ap (λ x. Some x) is) there in
    omega (arith, z, low)))
