use Rattle.std.proofs.Common.{ℕ, ◌≡◌, ◌<◌, ◌≤◌, ◌∙◌, List, length, get_or, ap, arith, subst, sym}
use Rattle.pass_leaf.specs.Leaves.{Leaf}
use Rattle.pass_leaf.specs.Places.{places_of}
use Rattle.pass_inputs.specs.Plans.{HasRoom, IsCut}
use Rattle.pass_inputs.proofs.Walks.{fits, shown_at, shown_more}
use Rattle.pass_inputs.proofs.shown.show.Goals as goal

next : (leaves list : List Leaf) (places : List ℕ) (file own count : ℕ) (leaf : Leaf) → list ≡ leaves → places ≡ places_of leaves file → own ≡ file → count < length places → leaf ≡ get_or list (get_or places count 0) leaf
    → (count < length (places_of leaves own)) × (leaf ≡ get_or leaves (get_or (places_of leaves own) count 0) leaf)
next leaves list places file own count leaf same are is within there =
    let here : places ≡ places_of leaves own = are ∙ ap (places_of leaves) (sym is) in
    (subst (λ (ps : List ℕ). count < length ps) here within, there ∙ ap (λ (ls : List Leaf). get_or ls (get_or places count 0) leaf) same ∙ ap (λ (ps : List ℕ). get_or leaves (get_or ps count 0) leaf) here)

pub follow-requires-clause-fits : goal.follow-requires-clause-fits
follow-requires-clause-fits c =
    let leaves : List Leaf = c.args.leaves.now in
    let now = c.walk.invariant in
    let leaf : Leaf = c.index-list-places.result in
    let room : ℕ = length c.args.shown.now.room.items in
    let at = next leaves c.list-list.result.now c.places-places.result.now c.args.file c.walk.shown.file c.walk.shown.count leaf c.list-list.ensures.list c.places-places.ensures now.own (c.comes.ensures.comes c.walk-test.true).0 c.index-list-places.is in
    let small : leaf.size ≤ room = fits leaves c.walk.shown c.walk.shown leaf now.shows at.0 at.1 room (subst (λ (f : ℕ). HasRoom leaves room f) (sym now.own) c.requires.room) in
    omega (arith, small, now.room)

pub walk-preserved : goal.walk-preserved
walk-preserved c =
    let leaves : List Leaf = c.args.leaves.now in
    let now = c.walk.invariant in
    let leaf : Leaf = c.index-list-places.result in
    let made = c.follow.ensures in
    let comes = c.comes.ensures.comes c.walk-test.true in
    let at = next leaves c.list-list.result.now c.places-places.result.now c.args.file c.walk.shown.file c.walk.shown.count leaf c.list-list.ensures.list c.places-places.ensures now.own comes.0 c.index-list-places.is in
    let last : get_or (places_of leaves c.args.file) c.walk.shown.count 0 ≤ c.args.place = subst (λ (ps : List ℕ). get_or ps c.walk.shown.count 0 ≤ c.args.place) c.places-places.ensures comes.1 in
    record {
      own = made.file ∙ now.own;
      up_to = λ k is.
          let same : c.walk.shown.count ≡ k = omega (arith, is, made.count) in
          subst (λ (n : ℕ). get_or (places_of leaves c.args.file) n 0 ≤ c.args.place) same last;
      shows = shown_more leaves c.walk.shown c.follow.new.shown leaf now.shows at.0 at.1 made.file made.count made.size made.content made.room;
      room = made.room ∙ now.room;
    }

pub returns-clause-content : goal.returns-clause-content
returns-clause-content c =
    shown_at c.args.leaves.now c.walk.shown c.args.file c.args.place c.walk.invariant.shows c.walk.invariant.own c.walk.invariant.up_to
    (subst (λ (ps : List ℕ). IsCut ps c.walk.shown.count c.args.place) c.places-places.ensures (c.comes.ensures.cut c.walk-test.false))
