use Rattle.std.proofs.Common.{ℕ, ◌≡◌, ◌+◌, ◌∙◌, sym, ap, List, [], ◌∷◌, ◌++◌, take}
use Rattle.std.proofs.lemmas.List.{take_more}
use Rattle.std.proofs.lemmas.List.Elements.{filter_map-append}
use Rattle.pass_entry.specs.declared.record.Record.{Record}
use Rattle.pass_graph.specs.ListRanks.{graph_nodes, made_node}
use Rattle.pass_view.proofs.selecting.made_nodes.Goals as goal

pub loop-one-preserved : goal.loop-one-preserved
loop-one-preserved c =
    let xs : List Record = c.args.records.now in
    let k : ℕ = c.loop-one.one-index in
    let r : Record = c.one-item.result in
    let front : take (k + 1) xs ≡ take k xs ++ r ∷ [] = take_more xs k r c.loop-one-test.true ∙ ap (λ x. take k xs ++ x ∷ []) (sym c.one-item.is) in
    c.in_ok-push_made.ensures ∙ ap (λ ns. ns ++ graph_nodes (r ∷ [])) c.loop-one.invariant
    ∙ sym (ap graph_nodes front ∙ filter_map-append made_node (take k xs) (r ∷ []))
