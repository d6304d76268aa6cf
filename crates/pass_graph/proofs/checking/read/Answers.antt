use Rattle.std.proofs.Common.{ℕ, ◌≡◌, ◌<◌, ◌+◌, sym, ap, ◌∙◌, subst, List, [], ◌∷◌, ◌++◌, length, take, drop, get_or}
use Rattle.std.specs.Prelude.{None, Some}
use Rattle.std.specs.Option.{option_map_or}
use Rattle.std.proofs.lemmas.List.{take_more, drop_more, take_all}
use Rattle.pass_entry.specs.declared.record.Record.{Record}
use Rattle.pass_plain.specs.WellLogged.{flaw_of, first_flaw_after}
use Rattle.pass_graph.specs.Logged.{Summarizes}
use Rattle.pass_graph.proofs.checking.read.Goals as goal

pub loop-place-preserved : goal.loop-place-preserved
loop-place-preserved c =
    let xs : List Record = c.args.list.now in
    let k : ℕ = c.loop-place.place in
    let r : Record = c.index-list-place.result in
    let within : k < length xs = c.loop-place-test.true in
    let at : r ≡ get_or xs k r = c.index-list-place.is in
    let front : take (k + 1) xs ≡ take k xs ++ r ∷ [] = take_more xs k r within ∙ ap (λ x. take k xs ++ x ∷ []) (sym at) in
    let back : drop k xs ≡ r ∷ drop (k + 1) xs = drop_more xs k r within ∙ ap (λ x. x ∷ drop (k + 1) xs) (sym at) in
    let fine : flaw_of (take k xs) r ≡ None = sym (c.flaw.ensures (take k xs) c.loop-place.invariant.logged) ∙ c.in_default.is in
    record {
      logged = subst (λ l. Summarizes c.add.new.self l) (sym front) (c.in_ok-add.ensures.ok (take k xs) c.loop-place.invariant.logged fine);
      rest = c.loop-place.invariant.rest ∙ ap (first_flaw_after (take k xs)) back
          ∙ ap (λ o. option_map_or (λ reason. Some (length (take k xs), reason)) o (first_flaw_after (take k xs ++ r ∷ []) (drop (k + 1) xs))) fine
          ∙ ap (λ l. first_flaw_after l (drop (k + 1) xs)) (sym front);
    }

pub returns-clause-says : goal.returns-clause-says
returns-clause-says c = subst (λ l. Summarizes c.loop-place.logged l) (take_all c.loop-place.place c.args.list.now c.loop-place-test.false) c.loop-place.invariant.logged
