use Rattle.std.proofs.Common.{◌∙◌, ◌++◌, ap}
use Rattle.std.specs.List.{flat_map}
use Rattle.std.proofs.lemmas.Result.{on_ok_weaker}
use Rattle.pass_view.specs.Dots.{edge_line, other_lines}
use Rattle.pass_view.proofs.dots.push_parts.Goals as goal

pub returns : goal.returns
returns c = on_ok_weaker c.push_edges.result (λ wrote.
    wrote ∙ ap (λ xs. xs ++ flat_map edge_line c.args.edges.now)
    (c.in_ok-push_others.ensures ∙ ap (λ xs. xs ++ other_lines c.args.nodes.now) c.in_ok-push_boxes.ensures))
    c.push_edges.ensures
