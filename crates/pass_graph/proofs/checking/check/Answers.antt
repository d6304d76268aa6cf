use Rattle.std.proofs.Common.{ℕ, ◌≡◌, ◌<◌, ◌+◌, refl, sym, ap, ◌∙◌, subst, List, [], ◌∷◌, ◌++◌, length, take, get_or, arith}
use Rattle.std.proofs.lemmas.List.{take_more, take_all, length-take-le}
use Rattle.pass_entry.specs.declared.record.Record.{Record}
use Rattle.pass_graph.specs.Check.{IsRankingOf}
use Rattle.pass_graph.proofs.Ranking.{list_acyclic_law}
use Rattle.pass_graph.proofs.Closing.{ranks_fall}
use Rattle.pass_graph.proofs.checking.check.Goals as goal

pub loop-place-preserved : goal.loop-place-preserved
loop-place-preserved c =
    let xs : List Record = c.args.list.now in
    let k : ℕ = c.loop-place.place in
    let r : Record = c.index-list-place.result in
    let within : k < length xs = c.loop-place-test.true in
    let at : r ≡ get_or xs k r = c.index-list-place.is in
    let front : take (k + 1) xs ≡ take k xs ++ r ∷ [] = take_more xs k r within ∙ ap (λ x. take k xs ++ x ∷ []) (sym at) in
    subst (λ l. IsRankingOf l c.add.new.self) (sym front) (c.in_ok-add.ensures (take k xs) c.loop-place.invariant (length-take-le k xs (omega arith)))

pub returns-clause-ranks : goal.returns-clause-ranks
returns-clause-ranks c =
    let all = take_all c.loop-place.place c.args.list.now c.loop-place-test.false in
    c.in_ok-places.ensures c.args.list.now (subst (λ xs. IsRankingOf xs c.loop-place.ranking) all c.loop-place.invariant) refl

pub returns-clause-falls : goal.returns-clause-falls
returns-clause-falls c = ranks_fall c.args.list.now c.in_ok-read.ensures.ok c.in_ok-places.places.items (returns-clause-ranks c)

pub returns-clause-acyclic : goal.returns-clause-acyclic
returns-clause-acyclic c = list_acyclic_law c.args.list.now c.in_ok-read.ensures.ok
