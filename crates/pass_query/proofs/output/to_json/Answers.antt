use Rattle.std.proofs.Common.{◌≡◌, false, [], ◌∷◌, ◌++◌, ap, ◌∙◌, arith}
use Rattle.std.specs.Prelude.{map}
use Rattle.std.proofs.lemmas.List.{take_all}
use Rattle.serde_json.specs.Data.{array, string}
use Rattle.serde_json.specs.View.{items_of, view}
use Rattle.serde_json.specs.Written.{compact_text, has_float}
use Rattle.serde_json.specs.declared.value.Value.TheVariants.{Array}
use Rattle.serde_json.proofs.Views.{view-Array}
use Rattle.pass_query.specs.Texts.{node_text}
use Rattle.pass_query.proofs.Jsons.{text_is, no_float}
use Rattle.pass_query.proofs.output.to_json.Goals as goal

pub returns : goal.returns
returns c =
    let nodes = c.args.nodes.now in
    let items = c.loop-node.invariant ∙ ap (map (λ n. string (node_text n))) (take_all c.loop-node.node-index nodes (omega (arith, c.loop-node-test.false))) in
    let is : view (Array c.loop-node.values) ≡ array (items_of (map (λ n. string (node_text n)) nodes)) = view-Array c.loop-node.values ∙ ap (λ ds. array (items_of ds)) items in
    let plain : has_float (view (Array c.loop-node.values)) ≡ false = ap has_float is ∙ no_float nodes in
    c.in_ok-push-2.ensures.items ∙ ap (λ xs. xs ++ 10 ∷ []) (c.in_ok-line.ensures.text plain ∙ ap compact_text is) ∙ text_is nodes
