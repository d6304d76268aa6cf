use Rattle.std.proofs.Common.{ℕ, List, ◌+◌, ◌∙◌, ap, subst, sym}
use Rattle.std.specs.HashMap.{get}
use Rattle.pass_plain.specs.Versions.{same_node}
use Rattle.pass_leaf.specs.Leaves.{Leaf}
use Rattle.pass_inputs.proofs.Seeking.{IsSought, noted_is, sought_all, sought_more}
use Rattle.pass_inputs.proofs.places.places_of.Goals as goal

pub loop-place-preserved : goal.loop-place-preserved
loop-place-preserved c = λ n.
    let leaves : List Leaf = c.args.leaves.now in
    let place : ℕ = c.loop-place.place in
    let old = get same_node c.loop-place.places in
    subst (IsSought leaves (place + 1) n) (sym (c.in_ok-note.ensures n ∙ noted_is c.node.result n place old))
    (sought_more leaves place c.index-leaves-place.result c.loop-place-test.true c.index-leaves-place.is n (same_node c.node.result n) (ap (λ m. same_node m n) (sym c.node.ensures)) (old n) (c.loop-place.invariant n))

pub returns : goal.returns
returns c = λ n. sought_all c.args.leaves.now c.loop-place.place n _ c.loop-place-test.false (c.loop-place.invariant n)
