-- What a queue holds after one node has settled, and after one was taken.
use Rattle.std.proofs.Common.{ℕ, ◌≡◌, ◌<◌, ◌+◌, Bool, true, false, ◌⊎◌, inl, inr, refl, sym, ap, ◌∙◌, subst, List, [], ◌∷◌, ◌++◌, length, arith, cond}
use Rattle.std.specs.Prelude.{Option, Some, None, IsSome, slice_get, Contains, if◌then◌else◌}
use Rattle.std.specs.Option.{option_map_or}
use Rattle.std.specs.Ordering.{is_eq}
use Rattle.std.specs.declared.vec.Vec.{Vec}
use Rattle.std.specs.declared.alloc.Global.{Global}
use Rattle.std.specs.HashSet.{contains}
use Rattle.std.specs.HashMap.{get}
use Rattle.std.specs.BTreeMap.{is_at, get as find_ready}
use Rattle.std.proofs.lemmas.Cmp.{tied_itself}
use Rattle.std.proofs.lemmas.List.Elements.{Contains-append_left, Contains-push, Contains-push_cases}
use Rattle.std.proofs.lemmas.Option.{slice_get_within}
use Rattle.std.proofs.lemmas.Bool.{false_from_ne_true}
use Rattle.pass_entry.specs.declared.objects.Node.{Node}
use Rattle.pass_entry.specs.declared.record.Record.{Record}
use Rattle.pass_entry.proofs.Places.{Contains-place, Contains-at}
use Rattle.pass_plain.specs.Versions.{same_node}
use Rattle.pass_plain.specs.Graphs.{IsEdge}
use Rattle.pass_plain.proofs.Lists.{some_is, below_or, is_equal}
use Rattle.pass_graph.proofs.Noding.{same_node_is, same_node_equiv}
use Rattle.pass_waldo.specs.Orders.{node_cmp}
use Rattle.pass_waldo.proofs.Indexing.{node_cmp_total, node_exact}
use Rattle.pass_recipe.specs.declared.waiters.Waiting.{Waiting}
use Rattle.pass_recipe.specs.declared.waiters.Waiters.{Waiters}
use Rattle.pass_recipe.specs.declared.queue.Queue.{Queue}
use Rattle.pass_recipe.specs.Queues.{Nodes, Ready, waiting_for, AreMade, IsUnmade, IsFit, WaitsFor, IsReady, IsQueue, IsHeld}
use Rattle.pass_recipe.proofs.Members.{true_false}

-- a row that is new has the one node
pub row_added : (old new : Waiters) (source : Node) (one : Waiting) (row : Vec Waiting Global) → get same_node old.rows source ≡ None → row.items ≡ one ∷ []
    → ((s : Node) → get same_node new.rows s ≡ cond (same_node source s) (Some row) (get same_node old.rows s))
    → (s : Node) → waiting_for new s ≡ (if same_node source s then waiting_for old s ++ one ∷ [] else waiting_for old s)
row_added old new source one row none has writes s = ap (λ o. option_map_or (λ v. v.items) o []) (writes s) ∙ at_test (same_node source s) refl
  where
    at_test : (b : Bool) → same_node source s ≡ b
        → option_map_or (λ v. v.items) (cond b (Some row) (get same_node old.rows s)) [] ≡ (if b then waiting_for old s ++ one ∷ [] else waiting_for old s)
    at_test true same =
        has ∙ ap (λ o. option_map_or (λ v. v.items) o [] ++ one ∷ []) (sym (ap (get same_node old.rows) (sym (same_node_is source s same)) ∙ none))
    at_test false apart = refl

is_at_itself : (n : Node) → is_at (node_cmp n) n ≡ true
is_at_itself n = ap is_eq (tied_itself node_cmp_total n)

is_at_same : (n m : Node) → is_at (node_cmp n) m ≡ true → n ≡ m
is_at_same n m is = node_exact n m (is_equal (node_cmp n m) is)

some_there : {X : Type 0} (o : Option X) (x : X) → o ≡ Some x → IsSome o
some_there o x is = subst IsSome (sym is) refl

-- the places before one are those before another and those from there on
split : (made : Nodes) (sources : List Node) (next end : ℕ) → AreMade made sources 0 next → AreMade made sources next end → (k : ℕ) (s : Node) → slice_get sources k ≡ Some s → k < end → contains same_node made s ≡ true
split made sources next end before later k s at low = case_of (below_or k next)
  where
    case_of : (k < next) ⊎ ((next < k) ⊎ (k ≡ next)) → contains same_node made s ≡ true
    case_of (inl under) = before k s at (omega arith) under
    case_of (inr (inl over)) = later k s at (omega (arith, over)) low
    case_of (inr (inr same)) = later k s at (omega (arith, same)) low

-- one more node waits for the source
module _ (q : Queue) (more : Waiters) (source : Node) (moved : Waiting)
    (adds : (s : Node) → waiting_for more s ≡ (if same_node source s then waiting_for q.waiters s ++ moved ∷ [] else waiting_for q.waiters s)) where
  abbrev pub waited : Queue
  waited = record { made = q.made; ready = q.ready; waiters = more }

  stays : (s : Node) (w : Waiting) → Contains (waiting_for q.waiters s) w → Contains (waiting_for more s) w
  stays s w there = subst (λ v. Contains v w) (sym (adds s)) (at_test (same_node source s))
    where
      at_test : (b : Bool) → Contains (if b then waiting_for q.waiters s ++ moved ∷ [] else waiting_for q.waiters s) w
      at_test true = Contains-append_left (waiting_for q.waiters s) (moved ∷ []) w there
      at_test false = there

  added : Contains (waiting_for more source) moved
  added = subst (λ v. Contains v moved) (sym (adds source)) (at_test (same_node source source) (same_node_equiv.refl source))
    where
      at_test : (b : Bool) → b ≡ true → Contains (if b then waiting_for q.waiters source ++ moved ∷ [] else waiting_for q.waiters source) moved
      at_test true is = Contains-push (waiting_for q.waiters source) moved
      at_test false is = let z : false ≡ true = is in absurd (cc)

  old_or_new : (s : Node) (w : Waiting) → Contains (waiting_for more s) w → Contains (waiting_for q.waiters s) w ⊎ ((source ≡ s) × (moved ≡ w))
  old_or_new s w there = at_test (same_node source s) refl (subst (λ v. Contains v w) (adds s) there)
    where
      at_test : (b : Bool) → same_node source s ≡ b → Contains (if b then waiting_for q.waiters s ++ moved ∷ [] else waiting_for q.waiters s) w
          → Contains (waiting_for q.waiters s) w ⊎ ((source ≡ s) × (moved ≡ w))
      at_test true same there = elim (Contains-push_cases (waiting_for q.waiters s) moved w there) [ inl old ↦ inl old | inr is ↦ inr (same_node_is source s same, is) ]
      at_test false apart there = inl there

  pub waited_holds : (n : Node) → IsHeld q n → IsHeld waited n
  waited_holds n (inl there) = inl there
  waited_holds n (inr w) = inr (record { source = w.source; one = w.one; unmade = w.unmade; there = stays w.source w.one w.there; is = w.is })

  pub waited_held : contains same_node q.made source ≡ false → IsHeld waited moved.node
  waited_held unmade = inr (record { source = source; one = moved; unmade = unmade; there = added; is = refl })

  pub waited_keeps : (list : List Record) (all : List Node) → IsQueue list all q → WaitsFor list all q.made source moved → IsQueue list all waited
  waited_keeps list all k waits = record { ready = k.ready; waiting = λ s w unmade there. case_of s w unmade (old_or_new s w there) }
    where
      case_of : (s : Node) (w : Waiting) → contains same_node q.made s ≡ false → Contains (waiting_for q.waiters s) w ⊎ ((source ≡ s) × (moved ≡ w)) → WaitsFor list all q.made s w
      case_of s w unmade (inl old) = k.waiting s w unmade old
      case_of s w unmade (inr (same, is)) = subst (λ x. WaitsFor list all q.made x w) same (subst (λ x. WaitsFor list all q.made source x) is waits)

-- a node whose next source is missing waits for it
pub fit_waits : (list : List Record) (all : List Node) (made : Nodes) (one : Waiting) (place : ℕ) (source : Node) → IsFit list all made one → slice_get one.sources.items place ≡ Some source
    → AreMade made one.sources.items one.next place → WaitsFor list all made source (record { node = one.node; sources = one.sources; next = place + 1 })
fit_waits list all made one place source f at are = record {
  unmade = f.unmade;
  leads = (f.unmade.edges.all source).0 (Contains-at one.sources.items place source at);
  before = λ k s here low. case_of k s here (below_or k place) low;
}
  where
    case_of : (k : ℕ) (s : Node) → slice_get one.sources.items k ≡ Some s → (k < place) ⊎ ((place < k) ⊎ (k ≡ place)) → k < place + 1 → (contains same_node made s ≡ true) ⊎ (s ≡ source)
    case_of k s here (inl under) low = inl (split made one.sources.items one.next place f.before are k s here under)
    case_of k s here (inr (inl over)) low = absurd (omega (arith, over, low))
    case_of k s here (inr (inr same)) low = inr (some_is s source (sym here ∙ ap (slice_get one.sources.items) same ∙ at))

-- one more node is ready
module _ (q : Queue) (more : Ready) (node : Node) (sources : Vec Node Global)
    (puts : (n : Node) → find_ready node_cmp more n ≡ cond (is_at (node_cmp node) n) (Some sources) (find_ready node_cmp q.ready n)) where
  abbrev pub readied : Queue
  readied = record { made = q.made; ready = more; waiters = q.waiters }

  pub readied_holds : (n : Node) → IsHeld q n → IsHeld readied n
  readied_holds n (inl there) = inl (subst IsSome (sym (puts n)) (at_test (is_at (node_cmp node) n)))
    where
      at_test : (b : Bool) → IsSome (cond b (Some sources) (find_ready node_cmp q.ready n))
      at_test true = refl
      at_test false = there
  readied_holds n (inr w) = inr (record { source = w.source; one = w.one; unmade = w.unmade; there = w.there; is = w.is })

  pub readied_held : IsHeld readied node
  readied_held = inl (some_there (find_ready node_cmp more node) sources (puts node ∙ ap (λ b. cond b (Some sources) (find_ready node_cmp q.ready node)) (is_at_itself node)))

  pub readied_keeps : (list : List Record) (all : List Node) → IsQueue list all q → IsReady list all q.made node sources.items → IsQueue list all readied
  readied_keeps list all k r = record { ready = λ n v at. at_test n v (is_at (node_cmp node) n) refl (sym (puts n) ∙ at); waiting = k.waiting }
    where
      at_test : (n : Node) (v : Vec Node Global) (b : Bool) → is_at (node_cmp node) n ≡ b → cond b (Some sources) (find_ready node_cmp q.ready n) ≡ Some v → IsReady list all q.made n v.items
      at_test n v true same is =
          subst (λ m. IsReady list all q.made m v.items) (is_at_same node n same) (subst (λ w. IsReady list all q.made node w.items) (some_is sources v is) r)
      at_test n v false apart is = k.ready n v is

-- a node of which no source is missing is ready
pub fit_ready : (list : List Record) (all : List Node) (made : Nodes) (one : Waiting) → IsFit list all made one → AreMade made one.sources.items one.next (length one.sources.items)
    → IsReady list all made one.node one.sources.items
fit_ready list all made one f are = record {
  unmade = f.unmade;
  before = λ s e.
      let (k, at) = Contains-place one.sources.items s ((f.unmade.edges.all s).1 e) in
      split made one.sources.items one.next (length one.sources.items) f.before are k s at (slice_get_within one.sources.items k s at);
}

-- a ready node was taken, and with it the nodes that waited for it
module _ (q : Queue) (n : Node) (v : Vec Node Global) (made : Nodes) (ready : Ready) (waiters : Waiters)
    (here : find_ready node_cmp q.ready n ≡ Some v)
    (makes : (m : Node) → contains same_node made m ≡ cond (same_node n m) true (contains same_node q.made m))
    (leaves : (m : Node) → find_ready node_cmp ready m ≡ cond (is_at (node_cmp n) m) None (find_ready node_cmp q.ready m))
    (others : (s : Node) → same_node n s ≡ false → waiting_for waiters s ≡ waiting_for q.waiters s) where
  abbrev pub left : Queue
  left = record { made = made; ready = ready; waiters = waiters }

  still : (s : Node) → contains same_node q.made s ≡ true → contains same_node made s ≡ true
  still s was = makes s ∙ at_test (same_node n s)
    where
      at_test : (b : Bool) → cond b true (contains same_node q.made s) ≡ true
      at_test true = refl
      at_test false = was

  itself : contains same_node made n ≡ true
  itself = makes n ∙ ap (λ b. cond b true (contains same_node q.made n)) (same_node_equiv.refl n)

  unmade_before : (s : Node) → contains same_node made s ≡ false → (same_node n s ≡ false) × (contains same_node q.made s ≡ false)
  unmade_before s unmade = at_test (same_node n s) refl (sym (makes s) ∙ unmade)
    where
      at_test : (b : Bool) → same_node n s ≡ b → cond b true (contains same_node q.made s) ≡ false → (same_node n s ≡ false) × (contains same_node q.made s ≡ false)
      at_test true same is = let z : true ≡ false = is in absurd (cc)
      at_test false apart is = (apart, is)

  module _ (list : List Record) (all : List Node) (k : IsQueue list all q) where
    taken : IsReady list all q.made n v.items
    taken = k.ready n v here

    -- a node that waits isn't the one that was taken
    not_taken : (s m : Node) → contains same_node q.made s ≡ false → IsEdge list m s → same_node n m ≡ false
    not_taken s m unmade e = false_from_ne_true (same_node n m) (λ same.
        true_false (contains same_node q.made s) (taken.before s (subst (λ x. IsEdge list x s) (sym (same_node_is n m same)) e)) unmade)

    unmade_stays : (m : Node) (sources : List Node) → IsUnmade list all q.made m sources → same_node n m ≡ false → IsUnmade list all made m sources
    unmade_stays m sources u apart = record { listed = u.listed; new = makes m ∙ ap (λ b. cond b true (contains same_node q.made m)) apart ∙ u.new; edges = u.edges }

    still_or : (s x : Node) → (contains same_node q.made s ≡ true) ⊎ (s ≡ x) → (contains same_node made s ≡ true) ⊎ (s ≡ x)
    still_or s x (inl was) = inl (still s was)
    still_or s x (inr is) = inr is

    pub left_keeps : IsQueue list all left
    left_keeps = record {
      ready = λ m w at. at_test m w (is_at (node_cmp n) m) refl (sym (leaves m) ∙ at);
      waiting = λ s w unmade there.
          let (apart, u) = unmade_before s unmade in
          let o = k.waiting s w u (subst (λ xs. Contains xs w) (others s apart) there) in
          record {
            unmade = unmade_stays w.node w.sources.items o.unmade (not_taken s w.node u o.leads);
            leads = o.leads;
            before = λ j x at low. still_or x s (o.before j x at low);
          };
    }
      where
        at_test : (m : Node) (w : Vec Node Global) (b : Bool) → is_at (node_cmp n) m ≡ b → cond b None (find_ready node_cmp q.ready m) ≡ Some w → IsReady list all made m w.items
        at_test m w true same is = absurd (cc)
        at_test m w false apart is =
            let r = k.ready m w is in
            record {
              unmade = unmade_stays m w.items r.unmade (false_from_ne_true (same_node n m) (λ same.
                  true_false (is_at (node_cmp n) m) (ap (is_at (node_cmp n)) (sym (same_node_is n m same)) ∙ is_at_itself n) apart));
              before = λ s e. still s (r.before s e);
            }

    pub woken_fit : (w : Waiting) → Contains (waiting_for q.waiters n) w → IsFit list all made w
    woken_fit w there =
        let o = k.waiting n w taken.unmade.new there in
        record {
          unmade = unmade_stays w.node w.sources.items o.unmade (not_taken n w.node taken.unmade.new o.leads);
          before = λ j s at from low. case_of s (o.before j s at low);
        }
      where
        case_of : (s : Node) → (contains same_node q.made s ≡ true) ⊎ (s ≡ n) → contains same_node made s ≡ true
        case_of s (inl was) = still s was
        case_of s (inr is) = ap (contains same_node made) is ∙ itself

  -- a node that the queue had is the one that was taken, waited for it, or is still there
  pub record Woken (m : Node) : Type 0 where
    pub one : Waiting
    pub there : Contains (waiting_for q.waiters n) one
    pub is : one.node ≡ m

  pub left_holds : (m : Node) → IsHeld q m → (m ≡ n) ⊎ (IsHeld left m ⊎ Woken m)
  left_holds m (inl there) = at_test (is_at (node_cmp n) m) refl
    where
      at_test : (b : Bool) → is_at (node_cmp n) m ≡ b → (m ≡ n) ⊎ (IsHeld left m ⊎ Woken m)
      at_test true same = inl (sym (is_at_same n m same))
      at_test false apart = inr (inl (inl (subst IsSome (sym (leaves m ∙ ap (λ b. cond b None (find_ready node_cmp q.ready m)) apart)) there)))
  left_holds m (inr w) = at_test (same_node n w.source) refl
    where
      at_test : (b : Bool) → same_node n w.source ≡ b → (m ≡ n) ⊎ (IsHeld left m ⊎ Woken m)
      at_test true same = inr (inr (record { one = w.one; there = subst (λ s. Contains (waiting_for q.waiters s) w.one) (sym (same_node_is n w.source same)) w.there; is = w.is }))
      at_test false apart = inr (inl (inr (record {
        source = w.source;
        one = w.one;
        unmade = makes w.source ∙ ap (λ b. cond b true (contains same_node q.made w.source)) apart ∙ w.unmade;
        there = subst (λ xs. Contains xs w.one) (sym (others w.source apart)) w.there;
        is = w.is;
      })))
