-- What holds of the nodes that a search has reached.
use Rattle.std.proofs.Common.{ℕ, ◌≡◌, ◌≤◌, ◌<◌, ◌+◌, zero, suc, Bool, true, false, not, ◌⊎◌, inl, inr, refl, sym, ap, ◌∙◌, subst, List, [], ◌∷◌, length, get_or, arith, length-append}
use Rattle.std.specs.Prelude.{Option, Some, None, map, filter, slice_get, option_map}
use Rattle.std.specs.List.Sorted.{IsStrictlySortedBy}
use Rattle.std.specs.declared.cmp.Ordering.TheVariants.{Less, Equal}
use Rattle.std.proofs.lemmas.Cmp.{tied_itself}
use Rattle.std.proofs.lemmas.List.Kept.{IsStrictlySortedBy-filter}
use Rattle.std.proofs.lemmas.Map.Keys.{Less-from_sorted}
use Rattle.std.proofs.lemmas.Option.{slice_get-map, slice_get_within, get_or_from_slice_get}
use Rattle.pass_entry.specs.declared.objects.Node.{Node}
use Rattle.pass_entry.specs.declared.record.Record.{Record}
use Rattle.pass_entry.proofs.Places.{in_either, slice_get-right, Contains-place, Contains-at}
use Rattle.pass_plain.specs.Versions.{same_node}
use Rattle.pass_plain.proofs.Lists.{any_at, any_of, filtered, in_filtered, slice_get-front, some_is}
use Rattle.pass_plain.proofs.Appends.{slice_get-append}
use Rattle.pass_graph.proofs.Noding.{same_node_is, same_node_equiv}
use Rattle.pass_waldo.specs.Orders.{node_cmp}
use Rattle.pass_waldo.specs.Lookups.{AreAll}
use Rattle.pass_waldo.proofs.Indexing.{node_cmp_total}
use Rattle.pass_query.specs.declared.search.Reached.{Reached}
use Rattle.pass_query.specs.declared.walk.Way.{Way}
use Rattle.pass_query.specs.Searches.{has_node, looked, Leads, IsSearch}
use Rattle.pass_query.specs.Searches.IsSearch.{begin, look}
use Rattle.pass_query.proofs.Looking.{fresh, reached_at, is_new}
use Rattle.pass_query.proofs.Elements.{one_value}

pub below_or : (j n : ℕ) → j < n + 1 → (j < n) ⊎ (j ≡ n)
below_or zero zero low = inr refl
below_or zero (suc n) low = inl (omega arith)
below_or (suc j) zero low = absurd (omega (arith, low))
below_or (suc j) (suc n) low = case_of (below_or j n (omega (arith, low)))
  where
    case_of : (j < n) ⊎ (j ≡ n) → (suc j < suc n) ⊎ (suc j ≡ suc n)
    case_of (inl less) = inl (omega (arith, less))
    case_of (inr same) = inr (ap suc same)

fresh_at : (old : List Reached) (place : ℕ) (row : List Node) (m : ℕ) (r : Reached) → slice_get (fresh old place row) m ≡ Some r
    → (x : Node) × (r ≡ reached_at place x) × (slice_get (filter (is_new old) row) m ≡ Some x)
fresh_at old place row m r at = at_option (slice_get (filter (is_new old) row) m) refl (sym (slice_get-map (reached_at place) (filter (is_new old) row) m) ∙ at)
  where
    at_option : (o : Option Node) → slice_get (filter (is_new old) row) m ≡ o → option_map (reached_at place) o ≡ Some r → (x : Node) × (r ≡ reached_at place x) × (slice_get (filter (is_new old) row) m ≡ Some x)
    at_option (Some x) here is = (x, sym (some_is (reached_at place x) r is), here)
    at_option None here is = absurd (cc)

fresh_here : (old : List Reached) (place : ℕ) (row : List Node) (m : ℕ) (x : Node) → slice_get (filter (is_new old) row) m ≡ Some x → slice_get (fresh old place row) m ≡ Some (reached_at place x)
fresh_here old place row m x at = slice_get-map (reached_at place) (filter (is_new old) row) m ∙ ap (option_map (reached_at place)) at

-- the nodes of a row in their order
pub ascends : (row : List Node) → IsStrictlySortedBy node_cmp row → (i j : ℕ) (x y : Node) → slice_get row i ≡ Some x → slice_get row j ≡ Some y → i < j → node_cmp x y ≡ Less
ascends row up i j x y at there low =
    ap (λ z. node_cmp z y) (sym (get_or_from_slice_get row i x x at)) ∙ ap (λ z. node_cmp (get_or row i x) z) (sym (get_or_from_slice_get row j y x there))
    ∙ Less-from_sorted node_cmp row i j x up low (slice_get_within row j y there)

pub not_itself : (x : Node) → node_cmp x x ≡ Less → ⊥
not_itself x less = let tied : node_cmp x x ≡ Equal = tied_itself node_cmp_total x in let z : Less ≡ Equal = sym less ∙ tied in cc

pub record Found (way : Way) (list : List Record) (reached : List Reached) (next k : ℕ) (r : Reached) : Type 0 where
  pub from : Reached
  pub at : slice_get reached r.before ≡ Some from
  pub low : r.before < next
  pub under : r.before < k
  pub leads : Leads way list from.node r.node

-- what was reached from a place further on, or from the same one and comes after in the order of nodes
abbrev pub Rises : Reached → Reached → Type 0
Rises r q = (r.before < q.before) ⊎ ((r.before ≡ q.before) × (node_cmp r.node q.node ≡ Less))

pub record Comes (reached : List Reached) (place : ℕ) (node : Node) : Type 0 where
  pub number : ℕ
  pub it : Reached
  pub at : slice_get reached number ≡ Some it
  pub is : it.node ≡ node
  pub early : it.before ≤ place

pub record IsOrdered (way : Way) (list : List Record) (first : Node) (reached : List Reached) (next : ℕ) : Type 0 where
  pub begins : slice_get reached 0 ≡ Some (reached_at 0 first)
  pub within : next ≤ length reached
  pub comes : (k : ℕ) (r : Reached) → slice_get reached (suc k) ≡ Some r → Found way list reached next (suc k) r
  pub rises : (j k : ℕ) (r q : Reached) → slice_get reached (suc j) ≡ Some r → slice_get reached (suc k) ≡ Some q → j < k → Rises r q
  pub once : (j k : ℕ) (r q : Reached) → slice_get reached j ≡ Some r → slice_get reached k ≡ Some q → r.node ≡ q.node → j ≡ k
  pub closed : (j : ℕ) (p : Reached) (y : Node) → j < next → slice_get reached j ≡ Some p → Leads way list p.node y → Comes reached j y

module _ (way : Way) (list : List Record) (first : Node) where
  begun : IsOrdered way list first (reached_at 0 first ∷ []) 0
  begun = record {
    begins = refl;
    within = omega arith;
    comes = λ k r at. absurd (cc);
    rises = λ j k r q at there low. absurd (cc);
    once = λ j k r q at there same. only j k r q at there;
    closed = λ j p y low at leads. absurd (omega (arith, low));
  }
    where
      only : (j k : ℕ) (r q : Reached) → slice_get (reached_at 0 first ∷ []) j ≡ Some r → slice_get (reached_at 0 first ∷ []) k ≡ Some q → j ≡ k
      only zero zero r q at there = refl
      only zero (suc k) r q at there = absurd (cc)
      only (suc j) k r q at there = absurd (cc)

  module _ (old : List Reached) (next : ℕ) (from : Reached) (row : List Node) (o : IsOrdered way list first old next) (here : slice_get old next ≡ Some from) (are : AreAll node_cmp row (Leads way list from.node)) where
    abbrev new : List Reached
    new = looked old next row

    in_new : (k : ℕ) (r : Reached) → slice_get old k ≡ Some r → slice_get new k ≡ Some r
    in_new k r at = slice_get-append old (fresh old next row) k r at

    next_within : next < length old
    next_within = slice_get_within old next from here

    kept : (k : ℕ) (r : Reached) → Found way list old next k r → Found way list new (next + 1) k r
    kept k r f = record { from = f.from; at = in_new r.before f.from f.at; low = omega (arith, f.low); under = f.under; leads = f.leads }

    -- a node that this look has added
    added : (m : ℕ) (r : Reached) → slice_get (fresh old next row) m ≡ Some r → (r.before ≡ next) × (Leads way list from.node r.node) × (is_new old r.node ≡ true) × (slice_get (filter (is_new old) row) m ≡ Some r.node)
    added m r at =
        let (x, is, there) = fresh_at old next row m r at in
        let node : r.node ≡ x = ap (λ q. q.node) is in
        let (unseen, i, in_row) = filtered (is_new old) row m x there in
        (ap (λ q. q.before) is, subst (λ y. Leads way list from.node y) (sym node) ((are.all x).0 (Contains-at row i x in_row)), ap (is_new old) node ∙ unseen, there ∙ ap (λ y. Some y) (sym node))

    comes_new : (k : ℕ) (r : Reached) → slice_get new (suc k) ≡ Some r → Found way list new (next + 1) (suc k) r
    comes_new k r at = case_of (in_either old (fresh old next row) (suc k) r at)
      where
        case_of : (slice_get old (suc k) ≡ Some r) ⊎ ((m : ℕ) × (suc k ≡ length old + m) × (slice_get (fresh old next row) m ≡ Some r)) → Found way list new (next + 1) (suc k) r
        case_of (inl there) = kept (suc k) r (o.comes k r there)
        case_of (inr (m, is, there)) = let (before, leads, unseen, in_row) = added m r there in record {
          from = from;
          at = ap (slice_get new) before ∙ in_new next from here;
          low = omega (arith, before);
          under = omega (arith, before, is, next_within);
          leads = leads;
        }

    fresh_up : IsStrictlySortedBy node_cmp (filter (is_new old) row)
    fresh_up = IsStrictlySortedBy-filter node_cmp (is_new old) row are.ascending

    rises_new : (j k : ℕ) (r q : Reached) → slice_get new (suc j) ≡ Some r → slice_get new (suc k) ≡ Some q → j < k → Rises r q
    rises_new j k r q at there low = case_of (in_either old (fresh old next row) (suc j) r at) (in_either old (fresh old next row) (suc k) q there)
      where
        case_of : (slice_get old (suc j) ≡ Some r) ⊎ ((m : ℕ) × (suc j ≡ length old + m) × (slice_get (fresh old next row) m ≡ Some r))
            → (slice_get old (suc k) ≡ Some q) ⊎ ((n : ℕ) × (suc k ≡ length old + n) × (slice_get (fresh old next row) n ≡ Some q)) → Rises r q
        case_of (inl a) (inl b) = o.rises j k r q a b low
        case_of (inl a) (inr (n, is, b)) = let (before, leads, unseen, in_row) = added n q b in let found = o.comes j r a in inl (omega (arith, before, found.low))
        case_of (inr (m, is, a)) (inl b) = absurd (let z = slice_get_within old (suc k) q b in omega (arith, z, is, low))
        case_of (inr (m, is, a)) (inr (n, also, b)) =
            let (before, leads, unseen, in_row) = added m r a in
            let (before_q, leads_q, unseen_q, in_row_q) = added n q b in
            inr (before ∙ sym before_q, ascends (filter (is_new old) row) fresh_up m n r.node q.node in_row in_row_q (omega (arith, is, also, low)))

    -- what is new was not there
    apart : (k : ℕ) (r q : Reached) → slice_get old k ≡ Some r → is_new old q.node ≡ true → r.node ≡ q.node → ⊥
    apart k r q at unseen same =
        let has : has_node old q.node ≡ true = any_of (λ x. same_node q.node x.node) old k r at (ap (same_node q.node) same ∙ same_node_equiv.refl q.node) in
        let z : not true ≡ true = ap not (sym has) ∙ unseen in
        let y : false ≡ true = z in cc

    in_order : (m n : ℕ) (r q : Reached) → slice_get (filter (is_new old) row) m ≡ Some r.node → slice_get (filter (is_new old) row) n ≡ Some q.node → r.node ≡ q.node → m < n → ⊥
    in_order m n r q a b same low =
        not_itself q.node (ap (λ x. node_cmp x q.node) (sym same) ∙ ascends (filter (is_new old) row) fresh_up m n r.node q.node a b low)

    once_new : (j k : ℕ) (r q : Reached) → slice_get new j ≡ Some r → slice_get new k ≡ Some q → r.node ≡ q.node → j ≡ k
    once_new j k r q at there same = case_of (in_either old (fresh old next row) j r at) (in_either old (fresh old next row) k q there)
      where
        case_of : (slice_get old j ≡ Some r) ⊎ ((m : ℕ) × (j ≡ length old + m) × (slice_get (fresh old next row) m ≡ Some r))
            → (slice_get old k ≡ Some q) ⊎ ((n : ℕ) × (k ≡ length old + n) × (slice_get (fresh old next row) n ≡ Some q)) → j ≡ k
        case_of (inl a) (inl b) = o.once j k r q a b same
        case_of (inl a) (inr (n, is, b)) = let (before, leads, unseen, in_row) = added n q b in absurd (apart j r q a unseen same)
        case_of (inr (m, is, a)) (inl b) = let (before, leads, unseen, in_row) = added m r a in absurd (apart k q r b unseen (sym same))
        case_of (inr (m, is, a)) (inr (n, also, b)) =
            let (before, leads, unseen, in_row) = added m r a in
            let (before_q, leads_q, unseen_q, in_row_q) = added n q b in
            let one : ¬ (m < n) = in_order m n r q in_row in_row_q same in
            let two : ¬ (n < m) = in_order n m q r in_row_q in_row (sym same) in
            omega (arith, is, also, one, two)

    closed_new : (j : ℕ) (p : Reached) (y : Node) → j < next + 1 → slice_get new j ≡ Some p → Leads way list p.node y → Comes new j y
    closed_new j p y low at leads = case_of (below_or j next low)
      where
        comes_in : (k : ℕ) (q : Reached) → slice_get old k ≡ Some q → q.before ≤ next
        comes_in zero q there = let z : q.before ≡ 0 = ap (λ x. x.before) (one_value old 0 q (reached_at 0 first) there o.begins) in omega (arith, z)
        comes_in (suc k) q there = let found = o.comes k q there in omega (arith, found.low)

        at_row : (i : ℕ) → slice_get row i ≡ Some y → (b : Bool) → has_node old y ≡ b → Comes new next y
        at_row i in_row true is =
            let (k, q, there, same) = any_at (λ x. same_node y x.node) old is in
            record { number = k; it = q; at = in_new k q there; is = sym (same_node_is y q.node same); early = comes_in k q there }
        at_row i in_row false is =
            let (m, there) = in_filtered (is_new old) row i y in_row (ap not is) in
            record { number = length old + m; it = reached_at next y; at = slice_get-right old (fresh old next row) m (reached_at next y) (fresh_here old next row m y there); is = refl; early = omega arith }

        old_at : j < length old → slice_get old j ≡ Some p
        old_at within = slice_get-front old (fresh old next row) j p within at

        case_of : (j < next) ⊎ (j ≡ next) → Comes new j y
        case_of (inl less) = let c = o.closed j p y less (old_at (omega (arith, less, next_within))) leads in record { number = c.number; it = c.it; at = in_new c.number c.it c.at; is = c.is; early = c.early }
        case_of (inr same) =
            let p_is : p ≡ from = one_value old next p from (ap (slice_get old) (sym same) ∙ old_at (omega (arith, same, next_within))) here in
            let (i, in_row) = Contains-place row y ((are.all y).1 (subst (λ (x : Reached). Leads way list x.node y) p_is leads)) in
            subst (λ k. Comes new k y) (sym same) (at_row i in_row (has_node old y) refl)

    looked_on : IsOrdered way list first new (next + 1)
    looked_on = record {
      begins = in_new 0 (reached_at 0 first) o.begins;
      within = let z = length-append old (fresh old next row) in omega (arith, z, next_within);
      comes = comes_new;
      rises = rises_new;
      once = once_new;
      closed = closed_new;
    }

  pub ordered : {reached : List Reached} {next count : ℕ} → IsSearch way list first reached next count → IsOrdered way list first reached next
  ordered begin = begun
  ordered (look {reached = reached} {next = next} {count = count} {from = from} {row = row} search here are) = looked_on reached next from row (ordered search) here are
