use Rattle.std.proofs.Common.{◌≡◌, ◌∙◌, ◌++◌, ap, List}
use Rattle.std.specs.Prelude.{ℕ, codes}
use Rattle.std.proofs.lemmas.Result.{on_ok_weaker}
use Rattle.pass_view.specs.Dots.{cluster, legend, legend_lines, system_lines}
use Rattle.pass_view.proofs.dots.push_boxes.Goals as goal

pub returns : goal.returns
returns c =
    let lines : List ℕ = legend_lines c.args.nodes.now in
    let files : List ℕ = system_lines c.args.nodes.now in
    let first : c.deref.result.now ≡ lines = c.deref.ensures.value ∙ c.in_ok-push_legend.ensures ∙ ap (λ xs. xs ++ lines) c.new-legend.ensures.items in
    let second : c.deref-2.result.now ≡ files = c.deref-2.ensures.value ∙ c.in_ok-push_system.ensures ∙ ap (λ xs. xs ++ files) c.new-system.ensures.items in
    on_ok_weaker c.push_cluster-2.result
    (λ wrote.
    wrote ∙ ap (λ xs. xs ++ cluster (codes "system") c.deref-2.result.now) (c.in_ok-push_cluster.ensures ∙ ap (λ xs. c.args.out.now.items ++ cluster (codes "legend") xs) first)
    ∙ ap (λ xs. c.args.out.now.items ++ legend c.args.nodes.now ++ cluster (codes "system") xs) second)
    c.push_cluster-2.ensures
