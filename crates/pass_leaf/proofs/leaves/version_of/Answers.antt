use Rattle.std.proofs.Common.{◌≡◌, ◌∙◌, ◌-◌, ℕ, List, length, sym, ap}
use Rattle.std.specs.Prelude.{slice_get}
use Rattle.pass_leaf.specs.Places.{places_of}
use Rattle.pass_leaf.proofs.Placing.{version_is, no_version}
use Rattle.pass_leaf.proofs.leaves.version_of.Goals as goal

pub returns-in-Some : goal.returns-in-Some
returns-in-Some c =
    let own : c.places_in.result.now ≡ places_of c.args.list.now c.args.pnode = c.places_in.ensures ∙ c.requires c.args.pnode in
    c.version_at.ensures ∙ version_is c.args.list.now c.args.pnode c.in-Some.place.now (ap (λ (l : List ℕ). slice_get l (length l - 1)) (sym own) ∙ sym c.in-Some.ensures.value)

pub returns-in-None : goal.returns-in-None
returns-in-None c =
    let own : c.places_in.result.now ≡ places_of c.args.list.now c.args.pnode = c.places_in.ensures ∙ c.requires c.args.pnode in
    no_version c.args.list.now c.args.pnode (ap (λ (l : List ℕ). slice_get l (length l - 1)) (sym own) ∙ sym c.in-None.ensures.value)
