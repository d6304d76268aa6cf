-- Nodes in ascending order.
use Rattle.std.proofs.Common.{◌+◌, inl, inr, sym, subst, List, [], ◌∷◌, ◌++◌}
use Rattle.std.specs.Prelude.{Some, Contains}
use Rattle.std.specs.List.{IsDistinct, list_any}
use Rattle.std.specs.List.Sorted.{IsSorted, IsPermutation}
use Rattle.std.proofs.lemmas.List.Elements.{Contains-append_left, Contains-push, Contains-push_cases}
use Rattle.std.proofs.lemmas.List.Sorted.{Contains-permutation, IsPermutation-sym}
use Rattle.std.proofs.lemmas.Map.Keys.{IsDistinct-IsPermutation, IsDistinct-push}
use Rattle.std.proofs.lemmas.Map.Views.{Contains-from_any}
use Rattle.std.proofs.lemmas.Bool.{false_from_ne_true}
use Rattle.pass_entry.specs.declared.objects.Node.{Node}
use Rattle.pass_entry.specs.declared.record.Record.{Record}
use Rattle.pass_plain.specs.Graphs.{HasPath}
use Rattle.pass_plain.specs.Versions.{same_node}
use Rattle.pass_plain.specs.WellLogged.{IsWellLogged}
use Rattle.pass_graph.proofs.Noding.{same_node_equiv, same_node_is}
use Rattle.pass_graph.proofs.Ranking.{list_acyclic_law}
use Rattle.pass_waldo.specs.Lookups.{AreAll}
use Rattle.pass_waldo.specs.Orders.{node_cmp}
use Rattle.pass_waldo.proofs.Indexing.{alike}
use Rattle.pass_query.proofs.Elements.{strictly, sorted_once}
use Rattle.pass_view.specs.Views.{IsShown}

no_node : Node
no_node = record { pnode = 0; version = 0 }

-- nodes of which none is there twice, once they are sorted
pub ordered : (nodes v : List Node) → IsDistinct same_node nodes → IsPermutation nodes v → IsSorted node_cmp v → AreAll node_cmp v (λ n. Contains nodes n)
ordered nodes v apart moved up = record {
  ascending = strictly v no_node up (IsDistinct-IsPermutation same_node same_node_equiv.symm nodes v moved apart);
  all = λ n. ((λ h. Contains-permutation v nodes n (IsPermutation-sym nodes v moved) h), (λ h. Contains-permutation nodes v n moved h));
}

module _ (list : List Record) (node : Node) (ancestors : List Node) (are : AreAll node_cmp ancestors (λ b. HasPath list node b)) where
  -- a node is none of its ancestors
  pub once_with : IsWellLogged list → IsDistinct same_node (ancestors ++ node ∷ [])
  once_with logged =
      IsDistinct-push same_node_equiv ancestors node (sorted_once ancestors are.ascending)
      (false_from_ne_true (list_any (same_node node) ancestors) (λ any. list_acyclic_law list logged node ((are.all node).0 (Contains-from_any same_node_is node ancestors any))))

  -- the node with its ancestors is what is shown of it
  pub shown_with : (v : List Node) → AreAll node_cmp v (λ n. Contains (ancestors ++ node ∷ []) n) → AreAll node_cmp v (IsShown list (Some node))
  shown_with v all = alike v (λ n. Contains (ancestors ++ node ∷ []) n) (IsShown list (Some node)) sound whole all
    where
      sound : (n : Node) → Contains (ancestors ++ node ∷ []) n → IsShown list (Some node) n
      sound n there = elim (Contains-push_cases ancestors node n there) [ inl old ↦ inr ((are.all n).0 old) | inr is ↦ inl (sym is) ]

      whole : (n : Node) → IsShown list (Some node) n → Contains (ancestors ++ node ∷ []) n
      whole n (inl is) = subst (λ x. Contains (ancestors ++ node ∷ []) x) (sym is) (Contains-push ancestors node)
      whole n (inr path) = Contains-append_left ancestors (node ∷ []) n ((are.all n).1 path)
