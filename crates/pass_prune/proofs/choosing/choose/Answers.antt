use Rattle.std.proofs.Common.{◌∙◌, ◌||◌, Bool, List, refl, ap}
use Rattle.std.specs.HashSet.{contains}
use Rattle.std.specs.List.{list_any}
use Rattle.pass_entry.specs.declared.objects.Node.{Node}
use Rattle.pass_plain.specs.Versions.{same_node}
use Rattle.pass_leaf.specs.Contents.{last_version}
use Rattle.pass_prune.specs.Choices.{is_tagged}
use Rattle.pass_prune.proofs.Nodes.{chosen_is}
use Rattle.pass_prune.proofs.choosing.choose.Goals as goal

pub returns-clause-choice : goal.returns-clause-choice
returns-clause-choice c = λ n.
    let tagged = c.in_ok-add_tagged.ensures n ∙ ap (λ (b : Bool). b || is_tagged c.args.index.now n) (ap (λ (ks : List Node). list_any (same_node n) ks) c.new-nodes.ensures.empty) in
    chosen_is c.args.index.now c.args.named.now c.args.leaves.now n (contains same_node c.add_tagged.new.nodes n) (contains same_node c.add_named.new.nodes n) (last_version c.args.leaves.now n.pnode) tagged
    (c.in_ok-add_named.ensures n) refl
