use Rattle.std.proofs.Common.{ℕ, ◌≡◌, ◌∙◌, ap, sym, subst, List, ◌++◌}
use Rattle.std.specs.Prelude.{IfOk}
use Rattle.std.specs.List.{flat_map}
use Rattle.pass_view.specs.Csvs.{edge_columns, edge_row, node_columns, node_row, row_bytes, table_text}
use Rattle.pass_view.specs.declared.csvs.Table.{Table}
use Rattle.pass_view.specs.declared.picture.Link.{Link}
use Rattle.pass_view.specs.declared.picture.Shown.{Shown}
use Rattle.pass_view.proofs.Rows.{rows_of}
use Rattle.pass_view.proofs.csvs.tabulate.Goals as goal

pub returns-in-Nodes : goal.returns-in-Nodes
returns-in-Nodes c =
    let store : List ℕ = c.args.store.now in
    let nodes : List Shown = c.args.view.now.nodes.items in
    subst (λ (t : Table). IfOk c.nodes_table.result (λ v. v.items ≡ table_text t store c.args.view.now)) (sym c.in-Nodes.is)
    (subst (λ (text : List ℕ). IfOk c.nodes_table.result (λ v. v.items ≡ text))
    (ap (λ xs. row_bytes node_columns ++ flat_map (λ (s : Shown). row_bytes (node_row store s)) xs) c.deref.ensures.value ∙ ap (λ text. row_bytes node_columns ++ text) (rows_of (node_row store) nodes))
    c.nodes_table.ensures)

pub returns-in-Edges : goal.returns-in-Edges
returns-in-Edges c =
    let store : List ℕ = c.args.store.now in
    let edges : List Link = c.args.view.now.edges.items in
    subst (λ (t : Table). IfOk c.edges_table.result (λ v. v.items ≡ table_text t store c.args.view.now)) (sym c.in-Edges.is)
    (subst (λ (text : List ℕ). IfOk c.edges_table.result (λ v. v.items ≡ text))
    (ap (λ xs. row_bytes edge_columns ++ flat_map (λ (e : Link). row_bytes (edge_row store e)) xs) c.deref-in-Edges.ensures.value ∙ ap (λ text. row_bytes edge_columns ++ text) (rows_of (edge_row store) edges))
    c.edges_table.ensures)
