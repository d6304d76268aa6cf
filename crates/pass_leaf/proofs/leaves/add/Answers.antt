use Rattle.std.proofs.Common.{rules, ◌≡◌, ◌∙◌, ◌==◌, ◌++◌, ◌∷◌, [], ℕ, List, length, ap, subst, sym}
use Rattle.std.specs.Prelude.{if◌then◌else◌}
use Rattle.pass_entry.specs.declared.objects.Node.{Node}
use Rattle.pass_leaf.specs.Leaves.{Leaf}
use Rattle.pass_leaf.specs.Places.{places_at, ArePlaces}
use Rattle.pass_leaf.proofs.Placing.{placed_more}
use Rattle.pass_leaf.proofs.leaves.add.Goals as goal

pub returns-clause-places : goal.returns-clause-places
returns-clause-places c =
    let list : List Leaf = c.args.list.now.items in
    let old : ℕ → List ℕ = places_at c.args.places.now in
    let place : c.len-place.result ≡ length list = search rules in
    subst (λ (l : List Leaf). ArePlaces l c.note.new.table) (sym (c.push_reserved.ensures.items ∙ ap (λ (l : List Leaf). l ++ c.args.leaf ∷ []) c.in_ok-reserve.ensures.items))
    (placed_more list c.args.leaf c.args.places.now c.note.new.table c.requires
    (λ p. c.in_ok-note.ensures.noted p ∙ ap (λ (n : Node). if n.pnode == p then old p ++ c.len-place.result ∷ [] else old p) c.node-pnode.ensures ∙ ap (λ (n : ℕ). if c.args.leaf.node.pnode == p then old p ++ n ∷ [] else old p) place))
