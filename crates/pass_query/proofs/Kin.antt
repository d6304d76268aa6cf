-- All that a search has reached, in order.
use Rattle.std.proofs.Common.{ℕ, ◌≡◌, ◌<◌, ◌-◌, zero, suc, refl, sym, ap, ◌∙◌, subst, List, [], ◌∷◌, length, drop, take, arith}
use Rattle.std.specs.Prelude.{Option, Some, None, map, slice_get, option_map, Contains}
use Rattle.std.specs.List.Sorted.{IsSorted, IsPermutation}
use Rattle.std.proofs.lemmas.List.{length-map, take_all}
use Rattle.std.proofs.lemmas.List.Sorted.{Contains-permutation, IsPermutation-sym}
use Rattle.std.proofs.lemmas.Map.Keys.{IsDistinct-IsPermutation}
use Rattle.std.proofs.lemmas.Option.{slice_get-map}
use Rattle.pass_entry.specs.declared.objects.Node.{Node}
use Rattle.pass_entry.specs.declared.record.Record.{Record}
use Rattle.pass_entry.proofs.Places.{Contains-place, Contains-at}
use Rattle.pass_plain.specs.Versions.{same_node}
use Rattle.pass_plain.specs.WellLogged.{IsWellLogged}
use Rattle.pass_plain.proofs.Lists.{some_is}
use Rattle.pass_graph.proofs.Noding.{same_node_equiv}
use Rattle.pass_graph.proofs.Ranking.{list_acyclic_law}
use Rattle.pass_waldo.specs.Orders.{node_cmp}
use Rattle.pass_waldo.specs.Lookups.{AreAll}
use Rattle.pass_query.specs.declared.search.Reached.{Reached}
use Rattle.pass_query.specs.declared.walk.Way.{Way}
use Rattle.pass_query.specs.declared.walk.Way.TheVariants.{Back, On}
use Rattle.pass_query.specs.Searches.{Reaches, IsWholeSearch, HasAllLed, HasOnlyLed}
use Rattle.pass_query.specs.Answers.{HasAllEntering, HasOnlyEntering}
use Rattle.pass_query.proofs.Looking.{reached_at}
use Rattle.pass_query.proofs.Searching.{IsOrdered, ordered}
use Rattle.pass_query.proofs.Bounding.{nodes_of, reached_of, distinct_from, come_on, all_reached}
use Rattle.pass_query.proofs.Elements.{strictly}

-- no node reaches itself
pub no_return : (way : Way) (list : List Record) → IsWellLogged list → (x : Node) → Reaches way list x x → ⊥
no_return Back list logged x p = list_acyclic_law list logged x p
no_return On list logged x p = list_acyclic_law list logged x p

module _ (way : Way) (list : List Record) (first : Node) (logged : IsWellLogged list) where
  -- the nodes after the first one, in order, are those to which the edges lead from it
  from_rest : (r : Reached) (rest : List Reached) (v : List Node) → IsOrdered way list first (r ∷ rest) (suc (length rest)) → IsPermutation (nodes_of rest) v → IsSorted node_cmp v → AreAll node_cmp v (Reaches way list first)
  from_rest r rest v o moved up = record {
    ascending = strictly v first up (IsDistinct-IsPermutation same_node same_node_equiv.symm (nodes_of rest) v moved (distinct_from (nodes_of rest) differ));
    all = λ x. (sound x, whole x);
  }
    where
      differ : (i j : ℕ) (x y : Node) → slice_get (nodes_of rest) i ≡ Some x → slice_get (nodes_of rest) j ≡ Some y → i < j → x ≡ y → ⊥
      differ i j x y at there low same =
          let (p, here, is) = reached_of rest i x at in
          let (q, later, also) = reached_of rest j y there in
          let z : suc i ≡ suc j = o.once (suc i) (suc j) p q here later (is ∙ same ∙ sym also) in
          omega (arith, z, low)

      sound : (x : Node) → Contains v x → Reaches way list first x
      sound x in_v =
          let (k, at) = Contains-place (nodes_of rest) x (Contains-permutation v (nodes_of rest) x (IsPermutation-sym (nodes_of rest) v moved) in_v) in
          let (q, there, is) = reached_of rest k x at in
          subst (λ y. Reaches way list first y) is (come_on way list first o k q there)

      at_place : (x : Node) (k : ℕ) (q : Reached) → Reaches way list first x → slice_get (r ∷ rest) k ≡ Some q → q.node ≡ x → Contains v x
      at_place x zero q come at is =
          let here : first ≡ x = ap (λ (p : Reached). p.node) (sym (some_is r (reached_at 0 first) o.begins) ∙ some_is r q at) ∙ is in
          absurd (no_return way list logged first (subst (λ y. Reaches way list first y) (sym here) come))
      at_place x (suc k) q come at is =
          Contains-permutation (nodes_of rest) v x moved (Contains-at (nodes_of rest) k x (slice_get-map (λ (p : Reached). p.node) rest k ∙ ap (option_map (λ (p : Reached). p.node)) at ∙ ap (λ y. Some y) is))

      whole : (x : Node) → Reaches way list first x → Contains v x
      whole x come = let (k, q, at, is) = all_reached way list first o x come in at_place x k q come at is

  pub are_all : (reached given : List Reached) (v : List Node) → IsWholeSearch way list first reached → given ≡ reached → IsPermutation (nodes_of (take (length given - 1) (drop 1 given))) v → IsSorted node_cmp v
      → AreAll node_cmp v (Reaches way list first)
  are_all [] given v w same moved up = let z = (ordered way list first w.search).begins in absurd (cc)
  are_all (r ∷ rest) given v w same moved up =
      let all : take (length (r ∷ rest) - 1) rest ≡ rest = take_all (length (r ∷ rest) - 1) rest (omega arith) in
      let is : take (length given - 1) (drop 1 given) ≡ rest = ap (λ xs. take (length xs - 1) (drop 1 xs)) same ∙ all in
      from_rest r rest v (ordered way list first w.search) (subst (λ xs. IsPermutation (nodes_of xs) v) is moved) up

pub turn : Node × Node → Node × Node
turn e = (e.1, e.0)

-- the same edges from their ends
pub turned_led : (list : List Record) (first : Node) (edges : List (Node × Node)) → HasAllEntering list first edges → HasAllLed On list first (map turn edges)
unfolding turn
turned_led list first edges all a b leads come =
    let (k, at) = Contains-place edges (b, a) (all b a leads come) in
    Contains-at (map turn edges) k (a, b) (slice_get-map turn edges k ∙ ap (option_map turn) at)

turned_place : (edges : List (Node × Node)) (k : ℕ) (e : Node × Node) → slice_get (map turn edges) k ≡ Some e → slice_get edges k ≡ Some (turn e)
unfolding turn
turned_place edges k e at = at_option (slice_get edges k) refl (sym (slice_get-map turn edges k) ∙ at)
  where
    at_option : (o : Option (Node × Node)) → slice_get edges k ≡ o → option_map turn o ≡ Some e → slice_get edges k ≡ Some (turn e)
    at_option (Some d) here is = here ∙ ap (λ x. Some (turn x)) (some_is (turn d) e is)
    at_option None here is = absurd (cc)

pub turned_only : (list : List Record) (first : Node) (edges : List (Node × Node)) → HasOnlyEntering list first edges → HasOnlyLed On list first (map turn edges)
unfolding turn
turned_only list first edges only = (
  λ i j e at there. only.0 i j (turn e) (turned_place edges i e at) (turned_place edges j e there),
  λ a b in_turned.
      let (k, at) = Contains-place (map turn edges) (a, b) in_turned in
      only.1 b a (Contains-at edges k (b, a) (turned_place edges k (a, b) at)),
)

pub turned_long : (edges : List (Node × Node)) → length (map turn edges) ≡ length edges
turned_long edges = length-map edges turn
