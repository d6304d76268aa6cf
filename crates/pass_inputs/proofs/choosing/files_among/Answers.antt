use Rattle.std.proofs.Common.{List, [], ◌∷◌, ◌++◌, ◌∙◌, ap}
use Rattle.std.specs.Prelude.{filter}
use Rattle.std.proofs.lemmas.List.{take_all}
use Rattle.pass_entry.specs.declared.objects.Node.{Node}
use Rattle.pass_inputs.specs.Inputs.{is_file}
use Rattle.pass_inputs.proofs.Adding.{filter_next}
use Rattle.pass_inputs.proofs.choosing.files_among.Goals as goal

pub loop-node-preserved : goal.loop-node-preserved
loop-node-preserved c = λ list facts.
    c.in_ok-keep.ensures list facts ∙ ap (λ (ns : List Node). ns ++ filter (is_file list) (c.node-item.result ∷ [])) (c.loop-node.invariant list facts)
    ∙ filter_next (is_file list) c.args.nodes.now c.loop-node.node-index c.node-item.result c.loop-node-test.true c.node-item.is

pub returns : goal.returns
returns c = λ list facts. c.loop-node.invariant list facts ∙ ap (filter (is_file list)) (take_all c.loop-node.node-index c.args.nodes.now c.loop-node-test.false)
