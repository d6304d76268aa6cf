use Rattle.std.proofs.Common.{ℕ, ◌≡◌, ◌+◌, ◌∙◌, sym, ap, subst, List, [], ◌∷◌, ◌++◌, take}
use Rattle.std.proofs.lemmas.List.{take_more}
use Rattle.pass_entry.specs.declared.record.Record.{Record}
use Rattle.pass_waldo.specs.Index.{AreTexts}
use Rattle.pass_waldo.proofs.Indexing.{none_texts}
use Rattle.pass_waldo.proofs.texts.Texts.of.Goals as goal

pub loop-one-init : goal.loop-one-init
loop-one-init c = none_texts c.new-texts.result c.new-texts.ensures.files c.new-texts.ensures.values

pub note-requires : goal.note-requires
note-requires c = λ name. (c.loop-one.invariant.files name).ascending

pub loop-one-preserved : goal.loop-one-preserved
loop-one-preserved c =
    let xs : List Record = c.args.records.now in
    let k : ℕ = c.loop-one.one-index in
    let r : Record = c.one-item.result in
    let front : take (k + 1) xs ≡ take k xs ++ r ∷ [] = take_more xs k r c.loop-one-test.true ∙ ap (λ x. take k xs ++ x ∷ []) (sym c.one-item.is) in
    subst (λ l. AreTexts l c.note.new.self) (sym front) (c.in_ok-note.ensures (take k xs) c.loop-one.invariant)
