-- The node with its ancestors.
use Rattle.std.proofs.Common.{inl, inr, sym, subst, List, [], ◌∷◌, ◌++◌}
use Rattle.std.specs.Prelude.{Contains}
use Rattle.std.specs.List.{IsDistinct}
use Rattle.std.proofs.lemmas.List.Elements.{Contains-append_left, Contains-push, Contains-push_cases}
use Rattle.std.proofs.lemmas.Map.Keys.{IsDistinct-push}
use Rattle.pass_entry.specs.declared.objects.Node.{Node}
use Rattle.pass_entry.specs.declared.record.Record.{Record}
use Rattle.pass_plain.specs.Versions.{same_node}
use Rattle.pass_plain.specs.Graphs.{IsEdge, HasPath}
use Rattle.pass_plain.specs.Graphs.HasPath.{edge, step}
use Rattle.pass_plain.specs.WellLogged.{IsWellLogged}
use Rattle.pass_graph.proofs.Noding.{same_node_equiv}
use Rattle.pass_graph.proofs.Ranking.{list_acyclic_law}
use Rattle.pass_waldo.specs.Orders.{node_cmp}
use Rattle.pass_waldo.specs.Lookups.{AreAll}
use Rattle.pass_query.specs.Answers.{HasAllLeaving, HasOnlyLeaving}
use Rattle.pass_query.proofs.Elements.{sorted_once}
use Rattle.pass_recipe.specs.Orders.{IsListed, HasOnlyListed, HasAllListed, HasAllFrom, HasOnlyFrom}
use Rattle.pass_recipe.proofs.Members.{not_there}

path_on : {list : List Record} {x y z : Node} → HasPath list x y → IsEdge list y z → HasPath list x z
path_on (edge e) f = step e (edge f)
path_on (step e p) f = step e (path_on p f)

module _ (list : List Record) (node : Node) (ancestors : List Node) (are : AreAll node_cmp ancestors (λ b. HasPath list node b)) where
  abbrev pub listed : List Node
  listed = ancestors ++ node ∷ []

  pub listed_sound : HasOnlyListed list node listed
  listed_sound n there = elim (Contains-push_cases ancestors node n there) [ inl old ↦ inr ((are.all n).0 old) | inr is ↦ inl (sym is) ]

  pub listed_complete : HasAllListed list node listed
  listed_complete n (inl is) = subst (Contains listed) (sym is) (Contains-push ancestors node)
  listed_complete n (inr path) = Contains-append_left ancestors (node ∷ []) n ((are.all n).1 path)

  pub listed_once : IsWellLogged list → IsDistinct same_node listed
  listed_once logged =
      IsDistinct-push same_node_equiv ancestors node (sorted_once ancestors are.ascending)
      (not_there ancestors node (λ there. list_acyclic_law list logged node ((are.all node).0 there)))

  pub listed_closed : (n s : Node) → Contains listed n → IsEdge list n s → Contains listed s
  listed_closed n s there e = listed_complete s (inr (on_from (listed_sound n there)))
    where
      on_from : IsListed list node n → HasPath list node s
      on_from (inl is) = edge (subst (λ x. IsEdge list x s) is e)
      on_from (inr path) = path_on path e

  pub all_from : (edges : List (Node × Node)) → HasAllLeaving list node edges → HasAllFrom list listed edges
  all_from edges all a b there e = all a b e (listed_sound a there)

  pub only_from : (edges : List (Node × Node)) → HasOnlyLeaving list node edges → HasOnlyFrom list listed edges
  only_from edges only = (only.0, λ a b there. let (e, come) = only.1 a b there in (e, listed_complete a come))
