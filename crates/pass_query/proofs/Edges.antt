-- The edges at which a search has looked.
use Rattle.std.proofs.Common.{ℕ, ◌≡◌, ◌≤◌, ◌<◌, ◌+◌, true, ◌⊎◌, inl, inr, refl, sym, ap, ◌∙◌, subst, List, [], ◌++◌, length, arith, length-append}
use Rattle.std.specs.Prelude.{Some, map, slice_get, option_map}
use Rattle.std.specs.List.{list_any}
use Rattle.std.proofs.lemmas.List.{length-map}
use Rattle.std.proofs.lemmas.Map.Made.{length-le_from_is_member}
use Rattle.std.proofs.lemmas.Option.{slice_get-map, slice_get_within}
use Rattle.pass_entry.specs.declared.objects.Node.{Node}
use Rattle.pass_entry.specs.declared.record.Record.{Record}
use Rattle.pass_entry.proofs.Places.{in_either, slice_get-right, Contains-place, Contains-at}
use Rattle.pass_plain.proofs.Appends.{slice_get-append}
use Rattle.pass_plain.proofs.Lists.{any_at, any_of}
use Rattle.pass_graph.specs.Logged.{same_pair}
use Rattle.pass_query.specs.declared.search.Reached.{Reached}
use Rattle.pass_query.specs.declared.walk.Way.{Way}
use Rattle.pass_query.specs.Searches.{Leads, Reaches, IsSearch, HasOnlyLed}
use Rattle.pass_query.specs.Searches.IsSearch.{begin, look}
use Rattle.pass_query.proofs.Looking.{reached_at, fresh}
use Rattle.pass_query.proofs.Searching.{ordered, below_or}
use Rattle.pass_query.proofs.Bounding.{all_reached}
use Rattle.pass_query.proofs.Elements.{same_pair_equiv, distinct, one_value}

abbrev pub edge_from : Node → Node → Node × Node
edge_from a b = (a, b)

module _ (way : Way) (list : List Record) (first : Node) where
  led_edges : {reached : List Reached} {next count : ℕ} → IsSearch way list first reached next count → List (Node × Node)
  led_edges begin = []
  led_edges (look {from = from} {row = row} before here are) = led_edges before ++ map (edge_from from.node) row

  led_long : {reached : List Reached} {next count : ℕ} (s : IsSearch way list first reached next count) → length (led_edges s) ≡ count
  unfolding led_edges
  led_long begin = refl
  led_long (look {from = from} {row = row} before here are) =
      let earlier = led_long before in
      let both = length-append (led_edges before) (map (edge_from from.node) row) in
      let mine = length-map row (edge_from from.node) in
      omega (arith, earlier, both, mine)

  -- a search has looked at each edge from what it has looked from
  led_all : {reached : List Reached} {next count : ℕ} (s : IsSearch way list first reached next count) → (j : ℕ) (p : Reached) (y : Node) → j < next → slice_get reached j ≡ Some p → Leads way list p.node y
      → (k : ℕ) × (slice_get (led_edges s) k ≡ Some (p.node, y))
  unfolding led_edges
  led_all begin j p y low at leads = absurd (omega (arith, low))
  led_all (look {reached = old} {next = next} {from = from} {row = row} before here are) j p y low at leads =
      by_place (λ under there. led_all before j p y under there leads) (below_or j next low)
    where
      within : next ≤ length old
      within = (ordered way list first before).within

      here_or : j < next → (slice_get old j ≡ Some p) ⊎ ((m : ℕ) × (j ≡ length old + m) × (slice_get (fresh old next row) m ≡ Some p)) → slice_get old j ≡ Some p
      here_or under (inl is) = is
      here_or under (inr (m, is, there)) = absurd (omega (arith, is, under, within))

      by_place : (j < next → slice_get old j ≡ Some p → (k : ℕ) × (slice_get (led_edges before) k ≡ Some (p.node, y))) → (j < next) ⊎ (j ≡ next)
          → (k : ℕ) × (slice_get (led_edges before ++ map (edge_from from.node) row) k ≡ Some (p.node, y))
      by_place earlier (inl under) =
          let (k, there) = earlier under (here_or under (in_either old (fresh old next row) j p at)) in
          (k, slice_get-append (led_edges before) (map (edge_from from.node) row) k (p.node, y) there)
      by_place earlier (inr same) =
          let is : p ≡ from = one_value (old ++ fresh old next row) next p from (ap (slice_get (old ++ fresh old next row)) (sym same) ∙ at) (slice_get-append old (fresh old next row) next from here) in
          let (m, there) = Contains-place row y ((are.all y).1 (subst (λ (q : Reached). Leads way list q.node y) is leads)) in
          let pair : slice_get (map (edge_from from.node) row) m ≡ Some (from.node, y) = slice_get-map (edge_from from.node) row m ∙ ap (option_map (edge_from from.node)) there in
          (length (led_edges before) + m, slice_get-right (led_edges before) (map (edge_from from.node) row) m (from.node, y) pair ∙ ap (λ (q : Reached). Some (edge_from q.node y)) (sym is))

  reached_or : {reached : List Reached} {count : ℕ} → IsSearch way list first reached (length reached) count → (x : Node) → (x ≡ first) ⊎ Reaches way list first x
      → (k : ℕ) × (r : Reached) × (slice_get reached k ≡ Some r) × (r.node ≡ x)
  reached_or s x (inl same) = (0, reached_at 0 first, (ordered way list first s).begins, sym same)
  reached_or s x (inr come) = all_reached way list first (ordered way list first s) x come

  -- a search that has looked from all that it has reached took a step for each edge that leads on
  pub no_fewer_steps : {reached : List Reached} {count : ℕ} → IsSearch way list first reached (length reached) count → (edges : List (Node × Node)) → HasOnlyLed way list first edges → length edges ≤ count
  no_fewer_steps {reached = reached} s edges only =
      let most = length-le_from_is_member same_pair_equiv edges (led_edges s) (distinct edges only.0) among in
      omega (arith, most, led_long s)
    where
      among : (q : Node × Node) → list_any (same_pair q) edges ≡ true → list_any (same_pair q) (led_edges s) ≡ true
      among q is =
          let (k, e, at, same) = any_at (same_pair q) edges is in
          let (leads, come) = only.1 e.0 e.1 (Contains-at edges k e at) in
          let (j, r, there, node) = reached_or s e.0 come in
          let (m, led) = led_all s j r e.1 (slice_get_within reached j r there) there (subst (λ (n : Node). Leads way list n e.1) (sym node) leads) in
          any_of (same_pair q) (led_edges s) m (r.node, e.1) led (ap (λ (n : Node). same_pair q (n, e.1)) node ∙ same)
