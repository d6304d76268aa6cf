-- How many edges leave some nodes.
use Rattle.std.proofs.Common.{ℕ, ◌≡◌, ◌≤◌, ◌+◌, ◌*◌, true, false, ◌||◌, ◌⊎◌, inl, inr, refl, sym, ap, ◌∙◌, subst, List, [], ◌∷◌, ◌++◌, length, arith, length-append, append_assoc}
use Rattle.std.specs.Prelude.{Option, Some, None, map, slice_get, option_map, Contains}
use Rattle.std.specs.List.{list_any, IsDistinct}
use Rattle.std.specs.List.Sorted.{IsStrictlySortedBy}
use Rattle.std.specs.declared.cmp.Ordering.TheVariants.{Less}
use Rattle.std.proofs.lemmas.List.{length-map, append-nil}
use Rattle.std.proofs.lemmas.List.Elements.{Contains-append_cases, Contains-append_left, Contains-append_right, Contains-push, Contains-push_cases}
use Rattle.std.proofs.lemmas.List.Folds.{list_any-append}
use Rattle.std.proofs.lemmas.Map.Keys.{IsDistinct-push, sorted_head, sorted_tail}
use Rattle.std.proofs.lemmas.Map.Made.{length-le_from_is_member}
use Rattle.std.proofs.lemmas.Option.{slice_get-map}
use Rattle.std.proofs.lemmas.Bool.{false_from_ne_true, and_right, or_from}
use Rattle.pass_entry.specs.declared.objects.Node.{Node}
use Rattle.pass_entry.specs.declared.record.Record.{Record}
use Rattle.pass_entry.proofs.Places.{Contains-place, each_contained, Contains-at, contains_none}
use Rattle.pass_plain.specs.Versions.{same_node}
use Rattle.pass_plain.specs.Graphs.{IsEdge}
use Rattle.pass_plain.proofs.Lists.{any_at, any_of, some_is}
use Rattle.pass_graph.specs.Logged.{same_pair}
use Rattle.pass_graph.proofs.Noding.{same_node_equiv}
use Rattle.pass_waldo.specs.Orders.{node_cmp}
use Rattle.pass_waldo.specs.Lookups.{AreAll}
use Rattle.pass_query.proofs.Elements.{same_pair_is, same_pair_equiv, distinct, differ, first_there}
use Rattle.pass_recipe.specs.Orders.{HasAllFrom, HasOnlyFrom}
use Rattle.pass_recipe.proofs.Members.{any_there, true_false}

edge_there : (edges : List (Node × Node)) (e : Node × Node) → list_any (same_pair e) edges ≡ true → Contains edges e
edge_there edges e any =
    let (k, x, at, same) = any_at (same_pair e) edges any in
    Contains-at edges k e (at ∙ ap (λ y. Some y) (sym (same_pair_is e x same)))

there_edge : (edges : List (Node × Node)) (e : Node × Node) → Contains edges e → list_any (same_pair e) edges ≡ true
there_edge edges e there = let (k, at) = Contains-place edges e there in any_of (same_pair e) edges k e at (same_pair_equiv.refl e)

-- a list without repeats is no longer than one that has all it has
fits : (xs ys : List (Node × Node)) → IsDistinct same_pair xs → ((e : Node × Node) → Contains xs e → Contains ys e) → length xs ≤ length ys
fits xs ys apart among = length-le_from_is_member same_pair_equiv xs ys apart (λ e any. there_edge ys e (among e (edge_there xs e any)))

-- the edges from a node to those of a row

abbrev from : Node → Node → Node × Node
from n s = (n, s)

in_row : (n : Node) (row : List Node) (e : Node × Node) → Contains (map (from n) row) e → (s : Node) × Contains row s × ((n, s) ≡ e)
in_row n row e there = let (k, at) = Contains-place (map (from n) row) e there in at_option k (slice_get row k) refl (sym (slice_get-map (from n) row k) ∙ at)
  where
    at_option : (k : ℕ) (o : Option Node) → slice_get row k ≡ o → option_map (from n) o ≡ Some e → (s : Node) × Contains row s × ((n, s) ≡ e)
    at_option k (Some s) here is = (s, Contains-at row k s here, some_is (n, s) e is)
    at_option k None here is = absurd (cc)

row_in : (n : Node) (row : List Node) (s : Node) → Contains row s → Contains (map (from n) row) (n, s)
row_in n row s there =
    let (k, at) = Contains-place row s there in
    Contains-at (map (from n) row) k (n, s) (slice_get-map (from n) row k ∙ ap (option_map (from n)) at)

row_apart : (n : Node) (edges : List (Node × Node)) (row : List Node) → IsDistinct same_pair edges → IsStrictlySortedBy node_cmp row → ((s : Node) → Contains row s → list_any (same_pair (n, s)) edges ≡ false)
    → IsDistinct same_pair (edges ++ map (from n) row)
row_apart n edges [] apart up new = subst (IsDistinct same_pair) (sym (append-nil edges)) apart
row_apart n edges (s ∷ row) apart up new =
    subst (IsDistinct same_pair) (append_assoc edges ((n, s) ∷ []) (map (from n) row))
    (row_apart n (edges ++ (n, s) ∷ []) row (IsDistinct-push same_pair_equiv edges (n, s) apart (new s (first_there s row))) (sorted_tail node_cmp s row up)
    (λ t there.
    list_any-append (same_pair (n, t)) edges ((n, s) ∷ [])
    ∙ or_from (list_any (same_pair (n, t)) edges) (same_pair (n, t) (n, s) || false) (new t (Contains-append_right (s ∷ []) row t there))
    (or_from (same_pair (n, t) (n, s)) false (and_right (same_node n n) (same_node t s) (same_node_equiv.symm t s ∙ differ s t (each_contained (λ y. node_cmp s y ≡ Less) row (sorted_head node_cmp s row up) t there))) refl)))

-- so many edges leave these nodes
pub record AreLeaving (list : List Record) (nodes : List Node) (count : ℕ) : Type 0 where
  pub edges : List (Node × Node)
  pub long : length edges ≡ count
  pub apart : IsDistinct same_pair edges
  pub sound : (a b : Node) → Contains edges (a, b) → IsEdge list a b × Contains nodes a
  pub whole : (a b : Node) → Contains nodes a → IsEdge list a b → Contains edges (a, b)

pub none_leave : (list : List Record) → AreLeaving list [] 0
unfolding IsDistinct
none_leave list = record {
  edges = [];
  long = refl;
  apart = tt;
  sound = λ a b there. absurd (contains_none (a, b) there);
  whole = λ a b there e. absurd (contains_none a there);
}

pub more_leave : (list : List Record) (nodes : List Node) (count : ℕ) (n : Node) (row : List Node) → AreLeaving list nodes count → list_any (same_node n) nodes ≡ false
    → AreAll node_cmp row (λ s. IsEdge list n s) → AreLeaving list (nodes ++ n ∷ []) (count + length row)
more_leave list nodes count n row l new are = record {
  edges = l.edges ++ map (from n) row;
  long = (let both = length-append l.edges (map (from n) row) in let mine = length-map row (from n) in let early = l.long in omega (arith, both, mine, early));
  apart = row_apart n l.edges row l.apart are.ascending (λ s there. false_from_ne_true (list_any (same_pair (n, s)) l.edges) (λ any.
      true_false (list_any (same_node n) nodes) (any_there nodes n (l.sound n s (edge_there l.edges (n, s) any)).1) new));
  sound = λ a b there. sound_in a b (Contains-append_cases l.edges (map (from n) row) (a, b) there);
  whole = λ a b there e. whole_in a b e (Contains-push_cases nodes n a there);
}
  where
    sound_in : (a b : Node) → Contains l.edges (a, b) ⊎ Contains (map (from n) row) (a, b) → IsEdge list a b × Contains (nodes ++ n ∷ []) a
    sound_in a b (inl early) = let (e, there) = l.sound a b early in (e, Contains-append_left nodes (n ∷ []) a there)
    sound_in a b (inr late) =
        let (s, there, is) = in_row n row (a, b) late in
        let one : n ≡ a = ap (λ (e : Node × Node). e.0) is in
        let two : s ≡ b = ap (λ (e : Node × Node). e.1) is in
        (subst (λ x. IsEdge list x b) one (subst (λ y. IsEdge list n y) two ((are.all s).0 there)), subst (λ x. Contains (nodes ++ n ∷ []) x) one (Contains-push nodes n))

    whole_in : (a b : Node) → IsEdge list a b → Contains nodes a ⊎ (n ≡ a) → Contains (l.edges ++ map (from n) row) (a, b)
    whole_in a b e (inl there) = Contains-append_left l.edges (map (from n) row) (a, b) (l.whole a b there e)
    whole_in a b e (inr is) =
        Contains-append_right l.edges (map (from n) row) (a, b)
        (subst (λ x. Contains (map (from n) row) (x, b)) is (row_in n row b ((are.all b).1 (subst (λ x. IsEdge list x b) (sym is) e))))

pub no_more_edges : (list : List Record) (nodes : List Node) (count : ℕ) → AreLeaving list nodes count → (edges : List (Node × Node)) → HasAllFrom list nodes edges → count ≤ length edges
no_more_edges list nodes count l edges all =
    let most = fits l.edges edges l.apart (λ e there. let (leads, from_node) = l.sound e.0 e.1 there in all e.0 e.1 from_node leads) in
    let long = l.long in omega (arith, most, long)

-- the edges of the first nodes are among those of all
pub no_more_front : (list : List Record) (nodes front : List Node) (count : ℕ) → ((n : Node) → Contains front n → Contains nodes n) → AreLeaving list front count → (edges : List (Node × Node)) → HasAllFrom list nodes edges
    → count ≤ length edges
no_more_front list nodes front count within l edges all = no_more_edges list front count l edges (λ a b there e. all a b (within a there) e)

pub no_fewer_edges : (list : List Record) (nodes : List Node) (count : ℕ) → AreLeaving list nodes count → (edges : List (Node × Node)) → HasOnlyFrom list nodes edges → length edges ≤ count
no_fewer_edges list nodes count l edges only =
    let most = fits edges l.edges (distinct edges only.0) (λ e there. let (leads, from_node) = only.1 e.0 e.1 there in l.whole e.0 e.1 from_node leads) in
    let long = l.long in omega (arith, most, long)

-- the edges that leave the first nodes, with the steps that they took
pub record AreCounted (list : List Record) (nodes : List Node) (start taken : ℕ) : Type 0 where
  pub count : ℕ
  pub leave : AreLeaving list nodes count
  pub exact : taken ≡ start + (count + count)

pub counted_none : (list : List Record) (start : ℕ) → AreCounted list [] start start
counted_none list start = record { count = 0; leave = none_leave list; exact = omega arith }

-- each edge of one more row took two steps
pub counted_more : (list : List Record) (nodes : List Node) (start mid taken : ℕ) (n : Node) (row : List Node) → AreCounted list nodes start mid → list_any (same_node n) nodes ≡ false
    → AreAll node_cmp row (λ s. IsEdge list n s) → taken ≡ mid + 2 * length row → AreCounted list (nodes ++ n ∷ []) start taken
counted_more list nodes start mid taken n row c new are two = record {
  count = c.count + length row;
  leave = more_leave list nodes c.count n row c.leave new are;
  exact = (let before = c.exact in omega (arith, before, two));
}

pub steps_most : (list : List Record) (nodes front : List Node) (start taken : ℕ) → AreCounted list front start taken → ((n : Node) → Contains front n → Contains nodes n) → (edges : List (Node × Node)) → HasAllFrom list nodes edges
    → taken ≤ start + 2 * length edges
steps_most list nodes front start taken c within edges all =
    let most = no_more_front list nodes front c.count within c.leave edges all in let exact = c.exact in omega (arith, most, exact)

pub steps_least : (list : List Record) (nodes : List Node) (start taken : ℕ) → AreCounted list nodes start taken → (edges : List (Node × Node)) → HasOnlyFrom list nodes edges → start + 2 * length edges ≤ taken
steps_least list nodes start taken c edges only =
    let least = no_fewer_edges list nodes c.count c.leave edges only in let exact = c.exact in omega (arith, least, exact)
