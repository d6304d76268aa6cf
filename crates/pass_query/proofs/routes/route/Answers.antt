use Rattle.std.proofs.Common.{◌≡◌, List, [], ◌∷◌, ◌++◌, length, reverse, refl, sym, ap, ◌∙◌, subst, arith}
use Rattle.std.specs.Prelude.{Some, slice_get}
use Rattle.std.proofs.lemmas.Option.{slice_get_read}
use Rattle.pass_query.specs.declared.search.Reached.{Reached}
use Rattle.pass_query.specs.Searches.{IsRoute}
use Rattle.pass_query.specs.Searches.IsRoute.{start}
use Rattle.pass_query.proofs.Routing.{before_low, route_on, turned_on}
use Rattle.pass_query.proofs.routes.route.Goals as goal

pub loop-at-smaller : goal.loop-at-smaller
loop-at-smaller c =
    let r = c.index-reached-at.result in
    before_low c.args.reached.now c.requires.chained c.loop-at.at r c.loop-at-test.true (slice_get_read c.args.reached.now (length c.args.reached.now) c.loop-at.at r refl c.loop-at.invariant.within c.index-reached-at.is)

pub loop-at-preserved : goal.loop-at-preserved
loop-at-preserved c =
    let r = c.index-reached-at.result in
    let reached : List Reached = c.args.reached.now in
    let here : slice_get reached c.loop-at.at ≡ Some r = slice_get_read reached (length reached) c.loop-at.at r refl c.loop-at.invariant.within c.index-reached-at.is in
    let low = before_low reached c.requires.chained c.loop-at.at r c.loop-at-test.true here in
    record {
      within = omega (arith, low, c.loop-at.invariant.within);
      route = λ w way.
          subst (IsRoute reached c.args.place) (turned_on w c.loop-at.nodes.items r.node ∙ ap (λ xs. w ++ reverse xs) (sym c.in_ok-push.ensures.items))
          (c.loop-at.invariant.route (w ++ r.node ∷ []) (route_on reached c.loop-at.at r w c.loop-at-test.true here way));
    }

pub returns : goal.returns
returns c =
    let r = c.index-reached-0.result in
    let reached : List Reached = c.args.reached.now in
    let here : slice_get reached 0 ≡ Some r = slice_get_read reached (length reached) 0 r refl (omega (arith, c.requires.within)) c.index-reached-0.is in
    let far : IsRoute reached c.loop-at.at (r.node ∷ []) = subst (λ k. IsRoute reached k (r.node ∷ [])) (sym c.loop-at-test.false) (start here) in
    subst (IsRoute reached c.args.place) (turned_on [] c.loop-at.nodes.items r.node ∙ ap reverse (sym (c.in_ok-push-2.ensures.items ∙ ap (λ (q : Reached). c.loop-at.nodes.items ++ q.node ∷ []) (sym c.index-reached-0.is))) ∙ sym c.reverse.ensures.items)
    (c.loop-at.invariant.route (r.node ∷ []) far)
