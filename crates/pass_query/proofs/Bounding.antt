-- How many nodes a search can reach and how many steps it can take, and what it reaches.
use Rattle.std.proofs.Common.{ℕ, ◌≡◌, ◌≤◌, ◌<◌, ◌+◌, ◌-◌, zero, suc, Bool, true, false, not, ◌||◌, ◌⊎◌, inl, inr, refl, sym, ap, ◌∙◌, subst, List, [], ◌∷◌, length, get_or, arith}
use Rattle.std.specs.Prelude.{Option, Some, None, map, filter, slice_get, option_map, Contains}
use Rattle.std.specs.List.{list_any, filter_map, cons_option, IsDistinct}
use Rattle.std.proofs.lemmas.Bool.{or_left, or_right, false_from_ne_true}
use Rattle.std.proofs.lemmas.List.{length-map}
use Rattle.std.proofs.lemmas.List.Filters.{length-filter_both}
use Rattle.std.proofs.lemmas.Map.Keys.{IsDistinct-from_apart}
use Rattle.std.proofs.lemmas.Map.Made.{length-le_from_is_member}
use Rattle.std.proofs.lemmas.Option.{slice_get-map, slice_get_within, get_or_from_slice_get}
use Rattle.pass_entry.specs.declared.objects.Node.{Node}
use Rattle.pass_entry.specs.declared.record.Record.{Record}
use Rattle.pass_entry.specs.declared.record.Record.TheVariants as log
use Rattle.pass_entry.proofs.Places.{mapped_fewer, Contains-place, Contains-at}
use Rattle.pass_plain.specs.Versions.{same_node}
use Rattle.pass_plain.specs.Graphs.{IsEdge, HasPath}
use Rattle.pass_plain.specs.Graphs.IsEdge.{input, version}
use Rattle.pass_plain.specs.Graphs.HasPath.{edge, step}
use Rattle.pass_plain.proofs.Lists.{any_at, any_of, is_place, in_filtered, some_is}
use Rattle.pass_plain.proofs.Appends.{slice_get-append}
use Rattle.pass_graph.proofs.Noding.{same_node_is, same_node_equiv}
use Rattle.pass_waldo.specs.Orders.{node_cmp}
use Rattle.pass_waldo.specs.Lookups.{AreAll}
use Rattle.pass_query.specs.declared.search.Reached.{Reached}
use Rattle.pass_query.specs.declared.walk.Way.{Way}
use Rattle.pass_query.specs.declared.walk.Way.TheVariants.{Back, On}
use Rattle.pass_query.specs.Searches.{Leads, Reaches, IsSearch, HasAllLed}
use Rattle.pass_query.specs.Searches.IsSearch.{begin, look}
use Rattle.pass_query.proofs.Looking.{reached_at, fresh}
use Rattle.pass_query.proofs.Searching.{IsOrdered, ordered, not_itself, ascends}
use Rattle.pass_query.proofs.Elements.{one_value}

-- the node to which the edge of a record leads
abbrev lead_end : Way → Record → Option Node
lead_end Back (log.Input target source) = Some source
lead_end Back (log.Version target) = Some (record { pnode = target.pnode; version = target.version - 1 })
lead_end On (log.Input target source) = Some target
lead_end On (log.Version target) = Some target
lead_end _ _ = None

in_filter_map : (h : Record → Option Node) (xs : List Record) (k : ℕ) (r : Record) (x : Node) → slice_get xs k ≡ Some r → h r ≡ Some x → list_any (same_node x) (filter_map h xs) ≡ true
in_filter_map h [] k r x at is = absurd (cc)
in_filter_map h (y ∷ xs) zero r x at is =
    let here : h y ≡ Some x = ap h (some_is y r at) ∙ is in
    ap (λ o. list_any (same_node x) (cons_option o (filter_map h xs))) here ∙ ap (λ b. b || list_any (same_node x) (filter_map h xs)) (same_node_equiv.refl x)
in_filter_map h (y ∷ xs) (suc k) r x at is = at_option (h y) (in_filter_map h xs k r x at is)
  where
    or_true : (b : Bool) → b || true ≡ true
    or_true true = refl
    or_true false = refl

    at_option : (o : Option Node) → list_any (same_node x) (filter_map h xs) ≡ true → list_any (same_node x) (cons_option o (filter_map h xs)) ≡ true
    at_option (Some z) later = ap (λ b. same_node x z || b) later ∙ or_true (same_node x z)
    at_option None later = later

-- each node to which an edge leads is the end of a record's edge
led_to : (way : Way) (list : List Record) (a b : Node) → Leads way list a b → list_any (same_node b) (filter_map (lead_end way) list) ≡ true
led_to Back list a b (input in_list) = let (k, at) = Contains-place list (log.Input a b) in_list in in_filter_map (lead_end Back) list k (log.Input a b) b at refl
led_to Back list a b (version in_list object next) =
    let (k, at) = Contains-place list (log.Version a) in_list in
    let number : a.version - 1 ≡ b.version = omega (arith, next) in
    in_filter_map (lead_end Back) list k (log.Version a) b at (λ i. Some (record { pnode = sym object i; version = number i }))
led_to On list a b (input in_list) = let (k, at) = Contains-place list (log.Input b a) in_list in in_filter_map (lead_end On) list k (log.Input b a) b at refl
led_to On list a b (version in_list object next) = let (k, at) = Contains-place list (log.Version b) in_list in in_filter_map (lead_end On) list k (log.Version b) b at refl

-- a list that has no node twice
pub distinct_from : (xs : List Node) → ((i j : ℕ) (x y : Node) → slice_get xs i ≡ Some x → slice_get xs j ≡ Some y → i < j → x ≡ y → ⊥) → IsDistinct same_node xs
distinct_from xs differ = IsDistinct-from_apart same_node xs (λ i j d low within. false_from_ne_true (same_node (get_or xs i d) (get_or xs j d)) (λ same.
    let (x, at) = is_place xs i (omega (arith, low, within)) in
    let (y, there) = is_place xs j within in
    let is : get_or xs i d ≡ x = get_or_from_slice_get xs i x d at in
    let also : get_or xs j d ≡ y = get_or_from_slice_get xs j y d there in
    differ i j x y at there low (sym is ∙ same_node_is (get_or xs i d) (get_or xs j d) same ∙ also)))

abbrev pub nodes_of : List Reached → List Node
nodes_of reached = map (λ r. r.node) reached

pub reached_of : (reached : List Reached) (k : ℕ) (x : Node) → slice_get (nodes_of reached) k ≡ Some x → (r : Reached) × (slice_get reached k ≡ Some r) × (r.node ≡ x)
reached_of reached k x at = at_option (slice_get reached k) refl (sym (slice_get-map (λ r. r.node) reached k) ∙ at)
  where
    at_option : (o : Option Reached) → slice_get reached k ≡ o → option_map (λ (r : Reached). r.node) o ≡ Some x → (r : Reached) × (slice_get reached k ≡ Some r) × (r.node ≡ x)
    at_option (Some r) here is = (r, here, some_is r.node x is)
    at_option None here is = absurd (cc)

module _ (way : Way) (list : List Record) (first : Node) where
  -- a search reaches no more than the first node and the ends of the edges
  pub no_longer : {reached : List Reached} {next : ℕ} → IsOrdered way list first reached next → length reached ≤ length list + 1
  no_longer {reached = reached} o =
      let most = length-le_from_is_member same_node_equiv (nodes_of reached) (first ∷ filter_map (lead_end way) list) (distinct_from (nodes_of reached) differ) all_in in
      let less = mapped_fewer (lead_end way) list in
      let same = length-map reached (λ (r : Reached). r.node) in
      omega (arith, most, less, same)
    where
      differ : (i j : ℕ) (x y : Node) → slice_get (nodes_of reached) i ≡ Some x → slice_get (nodes_of reached) j ≡ Some y → i < j → x ≡ y → ⊥
      differ i j x y at there low same =
          let (r, here, is) = reached_of reached i x at in
          let (q, later, also) = reached_of reached j y there in
          let z : i ≡ j = o.once i j r q here later (is ∙ same ∙ sym also) in
          omega (arith, z, low)

      at_place : (x : Node) (k : ℕ) (r : Reached) → slice_get reached k ≡ Some r → r.node ≡ x → list_any (same_node x) (first ∷ filter_map (lead_end way) list) ≡ true
      at_place x zero r at is =
          let node : first ≡ x = ap (λ q. q.node) (one_value reached 0 (reached_at 0 first) r o.begins at) ∙ is in
          or_left (same_node x first) (list_any (same_node x) (filter_map (lead_end way) list)) (ap (same_node x) node ∙ same_node_equiv.refl x)
      at_place x (suc k) r at is =
          let found = o.comes k r at in
          or_right (same_node x first) (list_any (same_node x) (filter_map (lead_end way) list)) (ap (λ y. list_any (same_node y) (filter_map (lead_end way) list)) (sym is) ∙ led_to way list found.from.node r.node found.leads)

      all_in : (x : Node) → list_any (same_node x) (nodes_of reached) ≡ true → list_any (same_node x) (first ∷ filter_map (lead_end way) list) ≡ true
      all_in x is =
          let (k, y, at, same) = any_at (same_node x) (nodes_of reached) is in
          let (r, here, node) = reached_of reached k y at in
          at_place x k r here (node ∙ sym (same_node_is x y same))

  -- one more row takes no more steps than the list has edges from its node
  module _ (old : List Reached) (next count : ℕ) (from : Reached) (row : List Node) (o : IsOrdered way list first old next) (here : slice_get old next ≡ Some from) (are : AreAll node_cmp row (Leads way list from.node)) where
    abbrev own : Node × Node → Bool
    own e = same_node from.node e.0

    abbrev other : Node × Node → Bool
    other e = not (own e)

    kept : (p : Node × Node → Bool) (edges : List (Node × Node)) (e : Node × Node) → Contains edges e → p e ≡ true → Contains (filter p edges) e
    kept p edges e in_edges pass = let (k, at) = Contains-place edges e in_edges in let (m, there) = in_filtered p edges k e at pass in Contains-at (filter p edges) m e there

    row_distinct : IsDistinct same_node row
    row_distinct = distinct_from row (λ i j x y at there low same. not_itself y (ap (λ z. node_cmp z y) (sym same) ∙ ascends row are.ascending i j x y at there low))

    row_fits : (edges : List (Node × Node)) → ((y : Node) → Leads way list from.node y → Contains edges (from.node, y)) → length row ≤ length (filter own edges)
    row_fits edges all =
        let most = length-le_from_is_member same_node_equiv row (map (λ (e : Node × Node). e.1) (filter own edges)) row_distinct in_ends in
        let same = length-map (filter own edges) (λ (e : Node × Node). e.1) in
        omega (arith, most, same)
      where
        in_ends : (x : Node) → list_any (same_node x) row ≡ true → list_any (same_node x) (map (λ (e : Node × Node). e.1) (filter own edges)) ≡ true
        in_ends x is =
            let (k, y, at, same) = any_at (same_node x) row is in
            let (m, there) = Contains-place (filter own edges) (from.node, y) (kept own edges (from.node, y) (all y ((are.all y).0 (Contains-at row k y at))) (same_node_equiv.refl from.node)) in
            any_of (same_node x) (map (λ (e : Node × Node). e.1) (filter own edges)) m y (slice_get-map (λ (e : Node × Node). e.1) (filter own edges) m ∙ ap (option_map (λ (e : Node × Node). e.1)) there) same

    others_kept : (edges : List (Node × Node)) → ((j : ℕ) (p : Reached) (y : Node) → j < next → slice_get old j ≡ Some p → Leads way list p.node y → Contains edges (p.node, y))
        → (j : ℕ) (p : Reached) (y : Node) → j < next → slice_get old j ≡ Some p → Leads way list p.node y → Contains (filter other edges) (p.node, y)
    others_kept edges all j p y low at leads = kept other edges (p.node, y) (all j p y low at leads) (ap not (false_from_ne_true (same_node from.node p.node) (λ same.
        let z : next ≡ j = o.once next j from p here at (same_node_is from.node p.node same) in omega (arith, z, low))))

    all_fit : (edges : List (Node × Node)) → count ≤ length (filter other edges) → length row ≤ length (filter own edges) → count + length row ≤ length edges
    all_fit edges before mine = let both = length-filter_both own other (λ e. refl) edges in omega (arith, both, before, mine)

  -- a search takes no more steps than a list has edges that has all along which it looked
  pub no_more_steps : {reached : List Reached} {next count : ℕ} → IsSearch way list first reached next count → (edges : List (Node × Node))
      → ((j : ℕ) (p : Reached) (y : Node) → j < next → slice_get reached j ≡ Some p → Leads way list p.node y → Contains edges (p.node, y)) → count ≤ length edges
  no_more_steps begin edges all = omega arith
  no_more_steps (look {reached = old} {next = next} {count = count} {from = from} {row = row} search here are) edges all =
      let o : IsOrdered way list first old next = ordered way list first search in
      all_fit old next count from row o here are edges
      (no_more_steps search (filter (other old next count from row o here are) edges)
      (others_kept old next count from row o here are edges (λ j p y low at leads. all j p y (omega (arith, low)) (slice_get-append old (fresh old next row) j p at) leads)))
      (row_fits old next count from row o here are edges (λ y leads. all next from y (omega arith) (slice_get-append old (fresh old next row) next from here) leads))

  -- an edge leads further on
  pub extend : (a b : Node) → (a ≡ first) ⊎ Reaches way list first a → Leads way list a b → Reaches way list first b
  extend a b come leads = on_way way come leads
    where
      last : {x y z : Node} → HasPath list x y → IsEdge list y z → HasPath list x z
      last (edge e) f = step e (edge f)
      last (step e p) f = step e (last p f)

      on_way : (w : Way) → (a ≡ first) ⊎ Reaches w list first a → Leads w list a b → Reaches w list first b
      on_way Back (inl same) e = edge (subst (λ (x : Node). IsEdge list x b) same e)
      on_way Back (inr p) e = last p e
      on_way On (inl same) e = edge (subst (λ (x : Node). IsEdge list b x) same e)
      on_way On (inr p) e = step e p

  module _ {reached : List Reached} {next : ℕ} (o : IsOrdered way list first reached next) where
    -- each node that is reached is the first one, or edges lead to it
    come_below : (n k : ℕ) (r : Reached) → k < n → slice_get reached k ≡ Some r → (r.node ≡ first) ⊎ Reaches way list first r.node
    come_below zero k r low at = absurd (omega (arith, low))
    come_below (suc n) zero r low at = inl (ap (λ (q : Reached). q.node) (one_value reached 0 r (reached_at 0 first) at o.begins))
    come_below (suc n) (suc k) r low at =
        let f = o.comes k r at in
        inr (extend f.from.node r.node (come_below n r.before f.from (omega (arith, f.under, low)) f.at) f.leads)

    pub come : (k : ℕ) (r : Reached) → slice_get reached k ≡ Some r → (r.node ≡ first) ⊎ Reaches way list first r.node
    come k r at = come_below (k + 1) k r (omega arith) at

    pub come_on : (k : ℕ) (r : Reached) → slice_get reached (suc k) ≡ Some r → Reaches way list first r.node
    come_on k r at = let f = o.comes k r at in extend f.from.node r.node (come r.before f.from f.at) f.leads

    -- the edges that a search looks at lead on from the first node, or from one that is reached from it
    pub all_led : (edges : List (Node × Node)) → HasAllLed way list first edges → (j : ℕ) (p : Reached) (y : Node) → j < next → slice_get reached j ≡ Some p → Leads way list p.node y → Contains edges (p.node, y)
    all_led edges all j p y low at leads = all p.node y leads (come j p at)

  -- a search that has looked from all that it has reached has reached all
  module _ {reached : List Reached} (o : IsOrdered way list first reached (length reached)) where
    abbrev pub IsReached : Node → Type 0
    IsReached x = (k : ℕ) × (r : Reached) × (slice_get reached k ≡ Some r) × (r.node ≡ x)

    on_from : (x y : Node) → IsReached x → Leads way list x y → IsReached y
    on_from x y (k, r, at, is) leads =
        let c = o.closed k r y (slice_get_within reached k r at) at (subst (λ (n : Node). Leads way list n y) (sym is) leads) in
        (c.number, c.it, c.at, c.is)

    first_reached : IsReached first
    first_reached = (0, reached_at 0 first, o.begins, refl)

    pub all_reached : (b : Node) → Reaches way list first b → IsReached b
    all_reached b come = on_way way on_from come
      where
        along : ((x y : Node) → IsReached x → IsEdge list x y → IsReached y) → {x y : Node} → HasPath list x y → IsReached x → IsReached y
        along go {x = x} {y = y} (edge e) is = go x y is e
        along go {x = x} (step {b = m} e p) is = along go p (go x m is e)

        against : ((x y : Node) → IsReached x → IsEdge list y x → IsReached y) → {x y : Node} → HasPath list x y → IsReached y → IsReached x
        against go {x = x} {y = y} (edge e) is = go y x is e
        against go {x = x} (step {b = m} e p) is = go m x (against go p is) e

        on_way : (w : Way) → ((x y : Node) → IsReached x → Leads w list x y → IsReached y) → Reaches w list first b → IsReached b
        on_way Back go p = along go p first_reached
        on_way On go p = against go p first_reached
