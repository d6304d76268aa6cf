-- What a queue hands out may come next, and in the end it has handed out all.
use Rattle.std.proofs.Common.{ℕ, ◌≡◌, ◌<◌, ◌+◌, zero, suc, Bool, true, false, ◌||◌, ◌⊎◌, inl, inr, refl, sym, ap, ◌∙◌, subst, List, [], ◌∷◌, ◌++◌, arith}
use Rattle.std.specs.Prelude.{Some, None, IsSome, Contains, if◌then◌else◌}
use Rattle.std.specs.List.{list_any}
use Rattle.std.specs.Ordering.{is_gt}
use Rattle.std.specs.declared.vec.Vec.{Vec}
use Rattle.std.specs.declared.alloc.Global.{Global}
use Rattle.std.specs.HashSet.{contains}
use Rattle.std.specs.BTreeMap.{IsLowerBound, get as find_ready}
use Rattle.std.proofs.lemmas.List.Folds.{list_any-append}
use Rattle.pass_entry.specs.declared.objects.Node.{Node}
use Rattle.pass_entry.specs.declared.record.Record.{Record}
use Rattle.pass_plain.specs.Versions.{same_node}
use Rattle.pass_plain.specs.Graphs.{IsEdge}
use Rattle.pass_plain.specs.WellLogged.{IsWellLogged}
use Rattle.pass_graph.specs.ListRanks.{list_rank}
use Rattle.pass_graph.proofs.Noding.{same_node_equiv}
use Rattle.pass_graph.proofs.Ranking.{list_rank_law}
use Rattle.pass_waldo.specs.Orders.{node_cmp}
use Rattle.pass_recipe.specs.declared.queue.Queue.{Queue}
use Rattle.pass_recipe.specs.Orders.{IsFree, IsGreedy}
use Rattle.pass_recipe.specs.Queues.{IsQueue, IsWaiting, IsHeld}
use Rattle.pass_recipe.proofs.Members.{any_there, there_any, true_false}
use Rattle.pass_recipe.proofs.Greedy.{greedy_push}

-- a queue that has handed out these nodes
module _ (list : List Record) (all nodes : List Node) (q : Queue) (k : IsQueue list all q)
    (made : (n : Node) → contains same_node q.made n ≡ list_any (same_node n) nodes)
    (held : (n : Node) → Contains all n → Contains nodes n ⊎ IsHeld q n) where
  made_there : (n : Node) → Contains nodes n → contains same_node q.made n ≡ true
  made_there n there = made n ∙ any_there nodes n there

  -- a node that waits for a source of which it is said that it was handed out
  no_wait : (n : Node) (w : IsWaiting q n) → (IsEdge list n w.source → Contains nodes w.source) → ⊥
  no_wait n w come =
      let o = k.waiting w.source w.one w.unmade w.there in
      true_false (contains same_node q.made w.source) (made_there w.source (come (subst (λ m. IsEdge list m w.source) w.is o.leads))) w.unmade

  module _ (n : Node) (v : Vec Node Global) (here : find_ready node_cmp q.ready n ≡ Some v) (least : IsLowerBound node_cmp q.ready n) where
    taken_free : IsFree list all nodes n
    taken_free =
        let r = k.ready n v here in
        record { listed = r.unmade.listed; new = sym (made n) ∙ r.unmade.new; sources = λ s e. there_any nodes s (sym (made s) ∙ r.before s e) }

    taken_least : (m : Node) → IsFree list all nodes m → is_gt (node_cmp n m) ≡ false
    taken_least m f = case_of (held m f.listed)
      where
        case_of : Contains nodes m ⊎ IsHeld q m → is_gt (node_cmp n m) ≡ false
        case_of (inl there) = absurd (true_false (list_any (same_node m) nodes) (any_there nodes m there) f.new)
        case_of (inr (inl ready)) = least m ready
        case_of (inr (inr w)) = absurd (no_wait m w (λ e. f.sources w.source e))

    pub taken_greedy : IsGreedy list all [] nodes → IsGreedy list all [] (nodes ++ n ∷ [])
    taken_greedy g = greedy_push list all [] nodes n g taken_free taken_least

  -- where none is ready, all were handed out: else one of the lowest rank waits for one of a lower rank
  module _ (logged : IsWellLogged list) (closed : (n s : Node) → Contains all n → IsEdge list n s → Contains all s) (none : (n : Node) → find_ready node_cmp q.ready n ≡ None) where
    below : (bound : ℕ) (n : Node) → list_rank list n < bound → Contains all n → Contains nodes n
    below zero n low there = absurd (omega (arith, low))
    below (suc bound) n low there = case_of (λ s less in_all. below bound s (omega (arith, low, less)) in_all) (held n there)
      where
        case_of : ((s : Node) → list_rank list s < list_rank list n → Contains all s → Contains nodes s) → Contains nodes n ⊎ IsHeld q n → Contains nodes n
        case_of earlier (inl had) = had
        case_of earlier (inr (inl ready)) = let z : false ≡ true = subst IsSome (none n) ready in absurd (cc)
        case_of earlier (inr (inr w)) = absurd (no_wait n w (λ e. earlier w.source (list_rank_law list logged n w.source e) (closed n w.source there e)))

    pub all_taken : (n : Node) → Contains all n → Contains nodes n
    all_taken n there = below (list_rank list n + 1) n (omega arith) there

-- one more node is made
or_last : (before same : Bool) → (if same then true else before) ≡ (before || (same || false))
or_last true true = refl
or_last true false = refl
or_last false true = refl
or_last false false = refl

pub made_more : (nodes : List Node) (n x : Node) (before : Bool) → before ≡ list_any (same_node x) nodes → (if same_node n x then true else before) ≡ list_any (same_node x) (nodes ++ n ∷ [])
made_more nodes n x before is =
    or_last before (same_node n x) ∙ ap (λ b. b || (same_node n x || false)) is ∙ ap (λ b. list_any (same_node x) nodes || (b || false)) (same_node_equiv.symm n x)
    ∙ sym (list_any-append (same_node x) nodes (n ∷ []))
