use Rattle.std.proofs.Common.{◌∙◌, sym, ap, subst}
use Rattle.std.specs.Prelude.{Contains}
use Rattle.pass_graph.specs.ListRanks.{HasNode, graph_nodes}
use Rattle.pass_waldo.specs.Lookups.{AreAll}
use Rattle.pass_waldo.specs.Orders.{node_cmp}
use Rattle.pass_waldo.proofs.Indexing.{alike}
use Rattle.pass_view.proofs.selecting.all_nodes.Goals as goal

pub returns : goal.returns
returns c =
    let list = c.args.index.now in
    let made = c.in_ok-made_nodes.ensures ∙ ap graph_nodes c.records.ensures.records in
    let law = c.well_logged.ensures.nodes list c.records.ensures.logged in
    let all : AreAll node_cmp c.in_order.result.items (HasNode list) =
    alike c.in_order.result.items (λ n. Contains c.in_ok-made_nodes.field-0.items n) (HasNode list)
    (λ n h. (law.0 n).0 (subst (λ xs. Contains xs n) made h)) (λ n h. subst (λ xs. Contains xs n) (sym made) ((law.0 n).1 h)) c.in_order.ensures in
    record { all = all; known = λ n h. ((all.all n).0 h).known }
