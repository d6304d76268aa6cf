use Rattle.std.proofs.Common.{sym, ap, ◌∙◌, [], ◌∷◌, ◌++◌}
use Rattle.std.specs.List.{cons_option}
use Rattle.std.proofs.lemmas.List.Elements.{filter_map-append}
use Rattle.std.proofs.lemmas.List.{append-nil}
use Rattle.pass_graph.specs.ListRanks.{made_node, graph_nodes}
use Rattle.pass_graph.proofs.checking.Ranking.add.Goals as goal

pub returns-in_ok-push : goal.returns-in_ok-push
returns-in_ok-push c = λ list r end. record {
  nodes = c.in_ok-push.ensures.items ∙ ap (λ v. v.items ++ c.in-Some.node ∷ []) c.close.ensures.nodes ∙ ap (λ xs. xs ++ c.in-Some.node ∷ []) r.nodes
      ∙ ap (λ o. graph_nodes list ++ cons_option o []) c.in-Some.ensures ∙ sym (filter_map-append made_node list (c.args.one.now ∷ []));
  closed = c.in_ok-close.ensures.closed list r.closed end;
}

pub returns-in_default : goal.returns-in_default
returns-in_default c = λ list r end. record {
  nodes = ap (λ v. v.items) c.close.ensures.nodes ∙ r.nodes ∙ sym (filter_map-append made_node list (c.args.one.now ∷ [])
      ∙ ap (λ o. graph_nodes list ++ cons_option o []) (sym c.made_node.ensures ∙ c.in_default.is) ∙ append-nil (graph_nodes list));
  closed = c.in_ok-close.ensures.closed list r.closed end;
}
