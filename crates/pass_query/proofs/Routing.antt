-- The routes of a search, and that each is the least path.
use Rattle.std.proofs.Common.{ℕ, ◌≡◌, ◌≤◌, ◌<◌, ◌+◌, zero, suc, Bool, true, false, ◌⊎◌, inl, inr, refl, sym, ap, ◌∙◌, subst, List, [], ◌∷◌, ◌++◌, length, get_or, arith, cond, Ordering, append_assoc, reverse}
use Rattle.std.specs.Prelude.{Some, None, nat_lt, slice_get}
use Rattle.std.specs.List.{position, position_or_len}
use Rattle.std.specs.Cmp.Lexicographic.{slice_cmp}
use Rattle.std.specs.Ordering.{ordering_then, is_gt}
use Rattle.std.specs.declared.cmp.Ordering.TheVariants.{Less, Equal, Greater}
use Rattle.std.proofs.lemmas.Cmp.{tied_itself, lists_total, upto}
use Rattle.std.proofs.lemmas.Bool.Decides.{nat_tests}
use Rattle.std.proofs.lemmas.List.{reverse-append, length_push}
use Rattle.std.proofs.lemmas.List.Quantifiers.{position-Some}
use Rattle.std.proofs.lemmas.List.Sums.{fails_before_first}
use Rattle.std.proofs.lemmas.Option.{slice_get_within, get_or_from_slice_get, slice_get-get_or}
use Rattle.pass_entry.specs.declared.objects.Node.{Node}
use Rattle.pass_entry.specs.declared.record.Record.{Record}
use Rattle.pass_plain.specs.Graphs.{IsEdge, HasPath}
use Rattle.pass_plain.specs.Graphs.HasPath.{edge as one_edge, step as edge_on}
use Rattle.pass_plain.specs.Versions.{same_node}
use Rattle.pass_plain.specs.WellLogged.{IsWellLogged}
use Rattle.pass_graph.proofs.Noding.{same_node_is, same_node_equiv}
use Rattle.pass_graph.proofs.Ranking.{list_acyclic_law}
use Rattle.pass_waldo.specs.Orders.{node_cmp}
use Rattle.pass_waldo.proofs.Indexing.{node_cmp_total}
use Rattle.pass_query.proofs.Elements.{one_value}
use Rattle.pass_query.specs.declared.search.Reached.{Reached}
use Rattle.pass_query.specs.declared.walk.Way.TheVariants.{Back}
use Rattle.pass_query.specs.Searches.{IsChained, IsRoute, IsWholeSearch}
use Rattle.pass_query.specs.Searches.IsRoute.{start, on}
use Rattle.pass_query.specs.Answers.{IsPath, IsUpTo, IsLeastPath}
use Rattle.pass_query.specs.Answers.IsPath.{edge, step}
use Rattle.pass_query.proofs.Bounding.{all_reached}
use Rattle.pass_query.proofs.Looking.{reached_at}
use Rattle.pass_query.proofs.Searching.{IsOrdered, ordered, Found, Rises, below_or}

-- a step of the way back
pub before_low : (reached : List Reached) → IsChained reached → (at : ℕ) (r : Reached) → ¬ (at ≡ 0) → slice_get reached at ≡ Some r → r.before < at
before_low reached chained zero r far here = absurd (far refl)
before_low reached chained (suc k) r far here = let z = chained k r here in omega (arith, z)

pub route_on : (reached : List Reached) (at : ℕ) (r : Reached) (nodes : List Node) → ¬ (at ≡ 0) → slice_get reached at ≡ Some r → IsRoute reached r.before nodes → IsRoute reached at (nodes ++ r.node ∷ [])
route_on reached zero r nodes far here route = absurd (far refl)
route_on reached (suc k) r nodes far here route = on here route

pub turned_on : (w nodes : List Node) (n : Node) → (w ++ n ∷ []) ++ reverse nodes ≡ w ++ reverse (nodes ++ n ∷ [])
turned_on w nodes n = append_assoc w (n ∷ []) (reverse nodes) ∙ ap (λ xs. w ++ xs) (sym (reverse-append nodes (n ∷ [])))

-- two lists as long, with one node more
then_equal : (o : Ordering) → ordering_then o Equal ≡ o
then_equal Less = refl
then_equal Equal = refl
then_equal Greater = refl

then_assoc : (o p q : Ordering) → ordering_then o (ordering_then p q) ≡ ordering_then (ordering_then o p) q
then_assoc Less p q = refl
then_assoc Equal p q = refl
then_assoc Greater p q = refl

cmp_more : (v w : List Node) (x y : Node) → length v ≡ length w → slice_cmp node_cmp (v ++ x ∷ []) (w ++ y ∷ []) ≡ ordering_then (slice_cmp node_cmp v w) (node_cmp x y)
cmp_more [] [] x y same = then_equal (node_cmp x y)
cmp_more [] (b ∷ w) x y same = absurd (omega (arith, same))
cmp_more (a ∷ v) [] x y same = absurd (omega (arith, same))
cmp_more (a ∷ v) (b ∷ w) x y same =
    ap (λ o. ordering_then (node_cmp a b) o) (cmp_more v w x y (omega (arith, same))) ∙ then_assoc (node_cmp a b) (slice_cmp node_cmp v w) (node_cmp x y)

IsBefore : List Node → List Node → Type 0
IsBefore v w = (length v < length w) ⊎ ((length v ≡ length w) × (slice_cmp node_cmp v w ≡ Less))

more_before : (v w : List Node) (x y : Node) → IsBefore v w → IsBefore (v ++ x ∷ []) (w ++ y ∷ [])
unfolding IsBefore
more_before v w x y (inl shorter) = inl (let a = length_push v x in let b = length_push w y in omega (arith, shorter, a, b))
more_before v w x y (inr (same, less)) =
    inr ((let a = length_push v x in let b = length_push w y in omega (arith, same, a, b)), cmp_more v w x y same ∙ ap (λ o. ordering_then o (node_cmp x y)) less)

last_before : (v : List Node) (x y : Node) → node_cmp x y ≡ Less → IsBefore (v ++ x ∷ []) (v ++ y ∷ [])
unfolding IsBefore
last_before v x y less =
    inr ((let a = length_push v x in let b = length_push v y in omega (arith, a, b)), cmp_more v v x y refl ∙ ap (λ o. ordering_then o (node_cmp x y)) (tied_itself (lists_total node_cmp_total) v) ∙ less)

before_up_to : (v w : List Node) → IsBefore v w → IsUpTo v w
unfolding IsBefore
before_up_to v w (inl shorter) = inl shorter
before_up_to v w (inr (same, less)) = inr (same, ap is_gt less)

itself_up_to : (v : List Node) → IsUpTo v v
itself_up_to v = inr (refl, ap is_gt (tied_itself (lists_total node_cmp_total) v))

up_to_on : (u v w : List Node) → IsUpTo u v → IsUpTo v w → IsUpTo u w
up_to_on u v w (inl a) (inl b) = inl (omega (arith, a, b))
up_to_on u v w (inl a) (inr (same, b)) = inl (omega (arith, a, same))
up_to_on u v w (inr (same, a)) (inl b) = inl (omega (arith, same, b))
up_to_on u v w (inr (same, a)) (inr (also, b)) = inr (same ∙ also, upto (lists_total node_cmp_total) u v w a b)

more_up_to : (v w : List Node) (x : Node) → IsUpTo v w → IsUpTo (v ++ x ∷ []) (w ++ x ∷ [])
more_up_to v w x (inl shorter) = inl (let a = length_push v x in let b = length_push w x in omega (arith, shorter, a, b))
more_up_to v w x (inr (same, no_later)) =
    inr (
      (let a = length_push v x in let b = length_push w x in omega (arith, same, a, b)),
      ap is_gt (cmp_more v w x x same ∙ ap (λ o. ordering_then (slice_cmp node_cmp v w) o) (tied_itself node_cmp_total x) ∙ then_equal (slice_cmp node_cmp v w)) ∙ no_later,
    )

module _ {reached : List Reached} where
  -- a place has one route
  one_route : {k : ℕ} {v w : List Node} → IsRoute reached k v → IsRoute reached k w → v ≡ w
  one_route (start {r = r} a) (start {r = q} b) = ap (λ (x : Reached). x.node ∷ []) (one_value reached 0 r q a b)
  one_route (on {k = k} {r = r} {nodes = v} a s) (on {r = q} {nodes = w} b t) =
      let same : r ≡ q = one_value reached (suc k) r q a b in
      let before : v ≡ w = one_route s (subst (λ (x : Reached). IsRoute reached x.before w) (sym same) t) in
      ap (λ u. u ++ r.node ∷ []) before ∙ ap (λ (x : Reached). w ++ x.node ∷ []) same

  some_long : {k : ℕ} {v : List Node} → IsRoute reached k v → 1 ≤ length v
  some_long (start a) = omega arith
  some_long (on {r = r} {nodes = v} a s) = let z = length_push v r.node in omega (arith, z)

module _ (list : List Record) (first : Node) (reached : List Reached) (o : IsOrdered Back list first reached (length reached)) where
  has_route_below : (n k : ℕ) (r : Reached) → k < n → slice_get reached k ≡ Some r → (w : List Node) × IsRoute reached k w
  has_route_below zero k r low at = absurd (omega (arith, low))
  has_route_below (suc n) zero r low at = (r.node ∷ [], start at)
  has_route_below (suc n) (suc k) r low at =
      let f = o.comes k r at in
      let (w, route) = has_route_below n r.before f.from (omega (arith, f.under, low)) f.at in
      (w ++ r.node ∷ [], on at route)

  has_route : (k : ℕ) (r : Reached) → slice_get reached k ≡ Some r → (w : List Node) × IsRoute reached k w
  has_route k r at = has_route_below (k + 1) k r (omega arith) at

  -- the routes of later places are later
  later_below : (n : ℕ) {j k : ℕ} {v w : List Node} → k < n → j < k → IsRoute reached j v → IsRoute reached k w → IsBefore v w
  unfolding IsBefore
  later_below zero low less s t = absurd (omega (arith, low))
  later_below (suc n) low less (start a) (start b) = absurd (omega (arith, less))
  later_below (suc n) low less (on a s) (start b) = absurd (omega (arith, less))
  later_below (suc n) low less (start a) (on {r = q} {nodes = w} b t) = inl (let y = some_long t in let z = length_push w q.node in omega (arith, y, z))
  later_below (suc n) low less (on {k = j} {r = r} {nodes = v} a s) (on {k = k} {r = q} {nodes = w} b t) =
      case_of (λ lower. let f = o.comes k q b in later_below n (omega (arith, f.under, low)) lower s t) (o.rises j k r q a b (omega (arith, less)))
    where
      case_of : (r.before < q.before → IsBefore v w) → Rises r q → IsBefore (v ++ r.node ∷ []) (w ++ q.node ∷ [])
      case_of sooner (inl lower) = more_before v w r.node q.node (sooner lower)
      case_of sooner (inr (same, first_one)) =
          let before : v ≡ w = one_route s (subst (λ p. IsRoute reached p w) (sym same) t) in
          subst (λ u. IsBefore (v ++ r.node ∷ []) (u ++ q.node ∷ [])) before (last_before v r.node q.node first_one)

  later : (j k : ℕ) (v w : List Node) → j ≤ k → IsRoute reached j v → IsRoute reached k w → IsUpTo v w
  later j k v w most s t = case_of (below_or j k (omega (arith, most)))
    where
      case_of : (j < k) ⊎ (j ≡ k) → IsUpTo v w
      case_of (inl less) = before_up_to v w (later_below (k + 1) (omega arith) less s t)
      case_of (inr same) = subst (λ u. IsUpTo v u) (one_route s (subst (λ p. IsRoute reached p w) (sym same) t)) (itself_up_to v)

  -- the nodes from the first one on to another one
  data IsWalk : Node → List Node → Type 0 where
    here : IsWalk first (first ∷ [])
    go : {a b : Node} {w : List Node} → IsWalk a w → IsEdge list a b → IsWalk b (w ++ b ∷ [])

  record IsBest (b : Node) (other : List Node) : Type 0 where
    number : ℕ
    it : Reached
    at : slice_get reached number ≡ Some it
    is : it.node ≡ b
    way : List Node
    route : IsRoute reached number way
    no_worse : IsUpTo way other

  best : {b : Node} {v : List Node} → IsWalk b v → IsBest b v
  best here = record { number = 0; it = reached_at 0 first; at = o.begins; is = refl; way = first ∷ []; route = start o.begins; no_worse = itself_up_to (first ∷ []) }
  best (go {a = a} {b = b} {w = v} walk e) = on_from (best walk)
    where
      at_place : (k : ℕ) (q : Reached) → slice_get reached k ≡ Some q → q.node ≡ b → (j : ℕ) (w : List Node) → q.before ≤ j → IsRoute reached j w → IsUpTo w v → IsBest b (v ++ b ∷ [])
      at_place zero q at is j w early route no_worse = record {
        number = 0;
        it = q;
        at = at;
        is = is;
        way = q.node ∷ [];
        route = start at;
        no_worse = inl (let y = some_long route in let z = length_push v b in omega (arith, y, z, shortest no_worse));
      }
        where
          shortest : IsUpTo w v → length w ≤ length v
          shortest (inl a) = omega (arith, a)
          shortest (inr (same, c)) = omega (arith, same)
      at_place (suc k) q at is j w early route no_worse =
          let f = o.comes k q at in
          let (u, before) = has_route q.before f.from f.at in
          record {
            number = suc k;
            it = q;
            at = at;
            is = is;
            way = u ++ q.node ∷ [];
            route = on at before;
            no_worse = subst (λ x. IsUpTo (u ++ q.node ∷ []) (v ++ x ∷ [])) is (more_up_to u v q.node (up_to_on u w v (later q.before j u w early before route) no_worse));
          }

      on_from : IsBest a v → IsBest b (v ++ b ∷ [])
      on_from i =
          let c = o.closed i.number i.it b (slice_get_within reached i.number i.it i.at) i.at (subst (λ x. IsEdge list x b) (sym i.is) e) in
          at_place c.number c.it c.at c.is i.number i.way c.early i.route i.no_worse

  -- each path is a walk
  walk_on : {a b : Node} {v : List Node} → IsPath list a b v → (u w : List Node) → w ≡ u ++ a ∷ [] → IsWalk a w → IsWalk b (u ++ v)
  walk_on {a = a} {b = b} (edge e) u w is walk = subst (IsWalk b) (ap (λ x. x ++ b ∷ []) is ∙ append_assoc u (a ∷ []) (b ∷ [])) (go walk e)
  walk_on {a = a} {b = b} (step {b = m} {nodes = v} e p) u w is walk = subst (IsWalk b) (ap (λ x. x ++ v) is ∙ append_assoc u (a ∷ []) v) (walk_on p w (w ++ m ∷ []) refl (go walk e))

  -- a route is a path
  path_more : {a b c : Node} {v : List Node} → IsPath list a b v → IsEdge list b c → IsPath list a c (v ++ c ∷ [])
  path_more (edge e) f = step e (edge f)
  path_more (step e p) f = step e (path_more p f)

  path_of : {k : ℕ} {w : List Node} (r : Reached) → slice_get reached k ≡ Some r → IsRoute reached k w → ((k ≡ 0) × (w ≡ first ∷ [])) ⊎ IsPath list first r.node w
  path_of r at (start {r = q} b) = inl (refl, ap (λ (x : Reached). x.node ∷ []) (one_value reached 0 q (reached_at 0 first) b o.begins))
  path_of r at (on {k = k} {r = q} {nodes = w} b s) = inr (case_of (path_of f.from f.at s))
    where
      f : Found Back list reached (length reached) (suc k) q
      f = o.comes k q b

      last : q.node ≡ r.node
      last = ap (λ (x : Reached). x.node) (one_value reached (suc k) q r b at)

      case_of : ((q.before ≡ 0) × (w ≡ first ∷ [])) ⊎ IsPath list first f.from.node w → IsPath list first r.node (w ++ q.node ∷ [])
      case_of (inl (low, one)) =
          let from : f.from.node ≡ first = ap (λ (x : Reached). x.node) (one_value reached 0 f.from (reached_at 0 first) (ap (slice_get reached) (sym low) ∙ f.at) o.begins) in
          subst (λ n. IsPath list first n (w ++ q.node ∷ [])) last
          (subst (λ v. IsPath list first q.node (v ++ q.node ∷ [])) (sym one) (edge (subst (λ n. IsEdge list n q.node) from f.leads)))
      case_of (inr p) = subst (λ n. IsPath list first n (w ++ q.node ∷ [])) last (path_more p f.leads)

  pub is_least : (k : ℕ) (r : Reached) (v : List Node) → ¬ (k ≡ 0) → slice_get reached k ≡ Some r → IsRoute reached k v → IsLeastPath list first r.node v
  is_least k r v far at route = record {
    path = case_of (path_of r at route);
    least = λ other p.
        let i = best (walk_on p [] (first ∷ []) refl here) in
        let same : i.number ≡ k = o.once i.number k i.it r i.at at i.is in
        subst (λ w. IsUpTo w other) (one_route (subst (λ n. IsRoute reached n i.way) same i.route) route) i.no_worse;
  }
    where
      case_of : ((k ≡ 0) × (v ≡ first ∷ [])) ⊎ IsPath list first r.node v → IsPath list first r.node v
      case_of (inl (low, one)) = absurd (far low)
      case_of (inr p) = p

-- a path leads from its first node to its last one
pub leads_there : {list : List Record} {a b : Node} {v : List Node} → IsPath list a b v → HasPath list a b
leads_there (edge e) = one_edge e
leads_there (step e p) = edge_on e (leads_there p)

-- where no element passes a test
pub not_there : {X : Type 0} (p : X → Bool) (xs : List X) (k : ℕ) (x : X) → position p xs ≡ None → slice_get xs k ≡ Some x → p x ≡ true → ⊥
not_there p xs k x none at pass = at_test (nat_lt (position_or_len p xs) (length xs)) refl none
  where
    at_test : (b : Bool) → nat_lt (position_or_len p xs) (length xs) ≡ b → cond b (Some (position_or_len p xs)) None ≡ None → ⊥
    at_test true low is = absurd (cc)
    at_test false past is =
        let within = slice_get_within xs k x at in
        let before : k < position_or_len p xs = grind (arith, nat_tests) in
        let fails : p (get_or xs k x) ≡ false = fails_before_first p xs k x before in
        let z : true ≡ false = sym pass ∙ ap p (sym (get_or_from_slice_get xs k x x at)) ∙ fails in
        cc

-- what a whole search tells of the node at a place
module _ (list : List Record) (first : Node) (reached : List Reached) (w : IsWholeSearch Back list first reached) where
  abbrev is_to : Node → Reached → Bool
  is_to to r = same_node r.node to

  o : IsOrdered Back list first reached (length reached)
  o = ordered Back list first w.search

  pub chained : IsChained reached
  chained k r at = let f = o.comes k r at in omega (arith, f.under)

  there : (to : Node) (place : ℕ) → position (is_to to) reached ≡ Some place → (slice_get reached place ≡ Some (get_or reached place (reached_at 0 first))) × ((get_or reached place (reached_at 0 first)).node ≡ to)
  there to place found =
      let (within, pass, rest) = position-Some (is_to to) reached place (reached_at 0 first) found in
      (slice_get-get_or reached place (reached_at 0 first) within, same_node_is (get_or reached place (reached_at 0 first)).node to pass)

  pub found_least : (to : Node) (place : ℕ) (v : List Node) → position (is_to to) reached ≡ Some place → ¬ (place ≡ 0) → IsRoute reached place v → IsLeastPath list first to v
  found_least to place v found far route =
      let (at, is) = there to place found in
      subst (λ n. IsLeastPath list first n v) is (is_least list first reached o place (get_or reached place (reached_at 0 first)) v far at route)

  pub never_none : (to : Node) → HasPath list first to → position (is_to to) reached ≡ None → ⊥
  never_none to p none =
      let (k, r, at, is) = all_reached Back list first o to p in
      not_there (is_to to) reached k r none at (ap (λ n. same_node n to) is ∙ same_node_equiv.refl to)

  pub never_first : IsWellLogged list → (to : Node) → HasPath list first to → position (is_to to) reached ≡ Some 0 → ⊥
  never_first logged to p found =
      let (at, is) = there to 0 found in
      let same : first ≡ to = ap (λ (x : Reached). x.node) (one_value reached 0 (reached_at 0 first) (get_or reached 0 (reached_at 0 first)) o.begins at) ∙ is in
      list_acyclic_law list logged first (subst (λ n. HasPath list first n) (sym same) p)
