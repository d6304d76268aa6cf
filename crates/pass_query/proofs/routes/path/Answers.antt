use Rattle.std.proofs.Common.{◌≡◌, List, refl, sym, ap, ◌∙◌, subst}
use Rattle.std.specs.Prelude.{Some}
use Rattle.std.specs.List.{position}
use Rattle.pass_plain.specs.Versions.{same_node}
use Rattle.pass_query.specs.declared.search.Reached.{Reached}
use Rattle.pass_query.specs.Searches.{IsRoute, IsChained}
use Rattle.pass_query.proofs.Routing.{chained, found_least, leads_there, never_none, never_first}
use Rattle.pass_query.proofs.routes.path.Goals as goal
use Rattle.pass_query.proofs.routes.path.Goals.{in_default-via-in-Some+else-place-ne0, in_default-via-in_default}

pub route-requires-clause-chained : goal.route-requires-clause-chained
route-requires-clause-chained g c =
    subst IsChained (sym c.deref-in-Some.ensures.value) (chained c.args.index.now c.args.from c.in_ok-reached.reached.items c.in_ok-reached.ensures.whole)

pub returns-in-Some-clause-least : goal.returns-in-Some-clause-least
returns-in-Some-clause-least g c =
    let items : List Reached = c.in_ok-reached.reached.items in
    let found : position (λ r. same_node r.node c.args.to) items ≡ Some c.in-Some.place = ap (position (λ r. same_node r.node c.args.to)) (sym c.deref.ensures.value) ∙ sym c.place_of.ensures ∙ c.in-Some.is in
    found_least c.args.index.now c.args.from items c.in_ok-reached.ensures.whole c.args.to c.in-Some.place c.in_ok-route-in-Some.field-0.items found c.if-place-ne0.true
    (subst (λ xs. IsRoute xs c.in-Some.place c.in_ok-route-in-Some.field-0.items) c.deref-in-Some.ensures.value c.in_ok-route-in-Some.ensures)

pub returns-in-Some-clause-none : goal.returns-in-Some-clause-none
returns-in-Some-clause-none g c =
    let items : List Reached = c.in_ok-reached.reached.items in
    let found : position (λ r. same_node r.node c.args.to) items ≡ Some c.in-Some.place = ap (position (λ r. same_node r.node c.args.to)) (sym c.deref.ensures.value) ∙ sym c.place_of.ensures ∙ c.in-Some.is in
    let least = found_least c.args.index.now c.args.from items c.in_ok-reached.ensures.whole c.args.to c.in-Some.place c.in_ok-route-in-Some.field-0.items found c.if-place-ne0.true
    (subst (λ xs. IsRoute xs c.in-Some.place c.in_ok-route-in-Some.field-0.items) c.deref-in-Some.ensures.value c.in_ok-route-in-Some.ensures) in
    ((λ none p. absurd (cc)), (λ never. absurd (never (leads_there least.path))))

pub returns-clause-none : goal.returns-clause-none
returns-clause-none g c =
    let items : List Reached = c.in_ok-reached.reached.items in
    let list = c.args.index.now in
    let found : position (λ r. same_node r.node c.args.to) items ≡ c.place_of.result = ap (position (λ r. same_node r.node c.args.to)) (sym c.deref.ensures.value) ∙ sym c.place_of.ensures in
    elim c.in_default.branch [
      | in_default-via-in-Some+else-place-ne0 w ↦
          ((λ none p. never_first list c.args.from items c.in_ok-reached.ensures.whole c.has.ensures.logged c.args.to p (found ∙ w.in-Some.is ∙ ap (λ n. Some n) w.if-place-ne0.false)), (λ never. refl))
      | in_default-via-in_default w ↦ ((λ none p. never_none list c.args.from items c.in_ok-reached.ensures.whole c.args.to p (found ∙ w.in_default.is)), (λ never. refl))
    ]

pub returns-in-Some-clause-counted : goal.returns-in-Some-clause-counted
returns-in-Some-clause-counted g c = c.in_ok-reached.ensures.counted

pub returns-clause-counted : goal.returns-clause-counted
returns-clause-counted g c = c.in_ok-reached.ensures.counted
