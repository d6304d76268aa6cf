use Rattle.std.proofs.Common.{ℕ, ◌≡◌, ◌+◌, ◌∙◌, sym, ap, subst, List, [], ◌∷◌, ◌++◌, take}
use Rattle.std.proofs.lemmas.List.{take_more}
use Rattle.pass_entry.specs.declared.record.Record.{Record}
use Rattle.pass_view.specs.Facts.{AreTags}
use Rattle.pass_view.proofs.tags.Tags.of.Goals as goal

pub loop-one-preserved : goal.loop-one-preserved
loop-one-preserved c =
    let xs : List Record = c.args.records.now in
    let k : ℕ = c.loop-one.one-index in
    let r : Record = c.one-item.result in
    let front : take (k + 1) xs ≡ take k xs ++ r ∷ [] = take_more xs k r c.loop-one-test.true ∙ ap (λ x. take k xs ++ x ∷ []) (sym c.one-item.is) in
    subst (λ l. AreTags l c.note.new.self) (sym front) (c.in_ok-note.ensures (take k xs) c.loop-one.invariant)
