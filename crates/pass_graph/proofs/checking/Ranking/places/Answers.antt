use Rattle.std.proofs.Common.{ℕ, ◌≡◌, ◌<◌, sym, ap, ◌∙◌, List, [], ◌∷◌, ◌++◌, length, take, get_or, arith}
use Rattle.std.specs.Prelude.{map, unwrap_or}
use Rattle.std.specs.HashMap.{get}
use Rattle.std.proofs.lemmas.List.{map_more, take_all}
use Rattle.pass_entry.specs.declared.objects.Node.{Node}
use Rattle.pass_plain.specs.Versions.{same_node}
use Rattle.pass_graph.specs.ListRanks.{list_rank}
use Rattle.pass_graph.proofs.Closing.{ranked_places}
use Rattle.pass_graph.proofs.checking.Ranking.places.Goals as goal

pub loop-node-preserved : goal.loop-node-preserved
loop-node-preserved c =
    let nodes : List Node = c.args.self.now.nodes.items in
    let row : Node → Node × ℕ = λ n. (n, unwrap_or (get same_node c.args.self.now.closed n) c.args.end) in
    let n : Node = c.node-item.result in
    let at : n ≡ get_or nodes c.loop-node.node-index n = c.node-item.is ∙ ap (λ xs. get_or xs c.loop-node.node-index n) c.deref-node-items.ensures.value in
    let within : c.loop-node.node-index < length nodes = (let z = ap length c.deref-node-items.ensures.value in let y = c.loop-node-test.true in omega (arith, z, y)) in
    let is : c.unwrap_or-rank.result ≡ unwrap_or (get same_node c.args.self.now.closed n) c.args.end = c.unwrap_or-rank.ensures ∙ ap (λ o. unwrap_or o c.args.end) (c.copied.ensures ∙ c.get.ensures.value) in
    c.in_ok-push.ensures.items ∙ ap (λ k. c.loop-node.places.items ++ (n, k) ∷ []) is ∙ ap (λ xs. xs ++ row n ∷ []) c.loop-node.invariant
    ∙ sym (map_more row nodes c.loop-node.node-index n within ∙ ap (λ m. map row (take c.loop-node.node-index nodes) ++ row m ∷ []) (sym at))

pub returns : goal.returns
returns c = λ list r end.
    let nodes : List Node = c.args.self.now.nodes.items in
    c.loop-node.invariant ∙ ap (map (λ n. (n, unwrap_or (get same_node c.args.self.now.closed n) c.args.end))) (take_all c.loop-node.node-index nodes (let z = ap length c.deref-node-items.ensures.value in let y = c.loop-node-test.false in omega (arith, z, y)))
    ∙ ranked_places list c.args.self.now.closed c.args.end r.closed end nodes ∙ ap (map (λ n. (n, list_rank list n))) r.nodes
