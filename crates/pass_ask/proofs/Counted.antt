-- One record more in the counts of a check.
use Rattle.std.proofs.Common.{ℕ, ◌+◌, ◌<◌, ◌≡◌, ap, ◌∙◌, refl, List, [], ◌∷◌, ◌++◌, true, false, length, take, get_or, append-nil, arith}
use Rattle.std.specs.Prelude.{Option, Some, None, is_some, fold, flat_map}
use Rattle.std.specs.List.{cons_option}
use Rattle.std.specs.BTreeSet.{insert_key}
use Rattle.std.proofs.lemmas.List.{take_more, length-append}
use Rattle.std.proofs.lemmas.List.Elements.{filter_map-append}
use Rattle.std.proofs.lemmas.Grind.{flat_map-append, fold-append}
use Rattle.std.proofs.lemmas.List.Concat.{flat_map-cons}
use Rattle.pass_entry.specs.declared.objects.Node.{Node}
use Rattle.pass_entry.specs.declared.record.Record.{Record}
use Rattle.pass_graph.specs.ListRanks.{made_node, graph_nodes}
use Rattle.pass_report.specs.Reports.{ascending, edge_cmp, edges_of_record}
use Rattle.pass_ask.specs.Checks.{node_count}

nodes_more : (list : List Record) (i : ℕ) (d : Record) → i < length list
    → node_count (take (i + 1) list) ≡ node_count (take i list) + length (cons_option (made_node (get_or list i d)) [])
nodes_more list i d there =
    ap node_count (take_more list i d there)
    ∙ ap length (filter_map-append made_node (take i list) (get_or list i d ∷ []))
    ∙ length-append (graph_nodes (take i list)) (graph_nodes (get_or list i d ∷ []))

pub node_more : (list : List Record) (i : ℕ) (d : Record) → i < length list → is_some (made_node (get_or list i d)) ≡ true
    → node_count (take (i + 1) list) ≡ node_count (take i list) + 1
node_more list i d there makes = nodes_more list i d there ∙ ap (λ n. node_count (take i list) + n) (one (made_node (get_or list i d)) makes)
  where
    one : (m : Option Node) → is_some m ≡ true → length (cons_option m []) ≡ 1
    one (Some n) is = refl
    one None is = absurd (cc)

pub no_node_more : (list : List Record) (i : ℕ) (d : Record) → i < length list → is_some (made_node (get_or list i d)) ≡ false
    → node_count (take (i + 1) list) ≡ node_count (take i list)
no_node_more list i d there makes = nodes_more list i d there ∙ none (made_node (get_or list i d)) makes
  where
    none : (m : Option Node) → is_some m ≡ false → node_count (take i list) + length (cons_option m []) ≡ node_count (take i list)
    none (Some n) is = absurd (cc)
    none None is = omega arith

pub edges_more : (list : List Record) (i : ℕ) (d : Record) → i < length list
    → ascending edge_cmp (flat_map edges_of_record (take (i + 1) list))
    ≡ fold (insert_key edge_cmp) (ascending edge_cmp (flat_map edges_of_record (take i list))) (edges_of_record (get_or list i d))
edges_more list i d there =
    ap (λ rs. ascending edge_cmp (flat_map edges_of_record rs)) (take_more list i d there)
    ∙ ap (ascending edge_cmp) (flat_map-append edges_of_record (take i list) (get_or list i d ∷ []) ∙ ap (λ es. flat_map edges_of_record (take i list) ++ es) (alone (get_or list i d)))
    ∙ fold-append (insert_key edge_cmp) [] (flat_map edges_of_record (take i list)) (edges_of_record (get_or list i d))
  where
    alone : (one : Record) → flat_map edges_of_record (one ∷ []) ≡ edges_of_record one
    alone one = flat_map-cons edges_of_record one [] ∙ append-nil (edges_of_record one)
