use Rattle.std.proofs.Common.{◌∙◌, ◌++◌, ap, List}
use Rattle.std.specs.Prelude.{codes}
use Rattle.std.specs.List.{flat_map}
use Rattle.pass_view.specs.Dots.{edge_line, legend, other_lines, system}
use Rattle.pass_view.specs.declared.picture.Link.{Link}
use Rattle.pass_view.specs.declared.picture.Shown.{Shown}
use Rattle.pass_view.proofs.Drawing.{drawn}
use Rattle.pass_view.proofs.dots.dot.Goals as goal

pub returns : goal.returns
returns c =
    let nodes : List Shown = c.args.view.now.nodes.items in
    let edges : List Link = c.args.view.now.edges.items in
    drawn (codes "digraph provenance {\n  node [style=filled];\n") (legend nodes) (system nodes) (other_lines nodes) (flat_map edge_line edges) (codes "}\n") c.new-out.ensures.items
    (c.in_ok-extend_from_slice.ensures.items ∙ ap (λ xs. c.new-out.result.items ++ xs) c.as_bytes.ensures.value)
    (c.in_ok-push_parts.ensures
    ∙ (λ i. c.extend_from_slice.new.self.items ++ legend (c.deref.ensures.value i) ++ system (c.deref.ensures.value i) ++ other_lines (c.deref.ensures.value i) ++ flat_map edge_line (c.deref-2.ensures.value i)))
    (c.in_ok-extend_from_slice-2.ensures.items ∙ ap (λ xs. c.push_parts.new.out.items ++ xs) c.as_bytes-2.ensures.value)
