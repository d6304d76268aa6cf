use Rattle.std.proofs.Common.{◌≡◌, ◌∙◌, [], ℕ, List, ap}
use Rattle.std.specs.declared.alloc.Global.{Global}
use Rattle.std.specs.Prelude.{Vec, fold}
use Rattle.std.proofs.lemmas.Result.{IfOk-weaker}
use Rattle.pass_leaf.specs.Leaves.{Leaf}
use Rattle.pass_leaf.specs.Contents.{last_content}
use Rattle.pass_leaf.specs.Places.{laid_at}
use Rattle.pass_leaf.proofs.Placing.{laid_all}
use Rattle.pass_leaf.proofs.leaves.Leaves.last_content.Goals as goal

pub returns : goal.returns
returns c =
    let list : List Leaf = c.self.inside.list.items in
    let pnode : ℕ = c.args.pnode in
    IfOk-weaker c.lay_all.result (λ (v : Vec ℕ Global). v.items ≡ fold (laid_at c.deref.result.now) [] c.places_in.result.now) (λ (v : Vec ℕ Global). v.items ≡ last_content c.args.self.now pnode)
    (λ v made.
    made ∙ ap (λ (l : List Leaf). fold (laid_at l) [] c.places_in.result.now) c.deref.ensures.value ∙ ap (fold (laid_at list) []) (c.places_in.ensures ∙ c.self.invariant.1 pnode)
    ∙ laid_all list pnode ∙ ap (λ (l : List Leaf). last_content l pnode) c.self.view_is)
    c.lay_all.ensures
