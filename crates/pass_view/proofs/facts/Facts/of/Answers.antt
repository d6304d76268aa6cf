use Rattle.std.proofs.Common.{ℕ, ◌≡◌, ◌+◌, ◌∙◌, sym, ap, subst, List, [], ◌∷◌, ◌++◌, take, drop}
use Rattle.std.proofs.lemmas.List.{take_more}
use Rattle.pass_entry.specs.declared.record.Record.{Record}
use Rattle.pass_plain.specs.WellLogged.{first_flaw_after}
use Rattle.pass_view.specs.Facts.{AreFacts}
use Rattle.pass_view.proofs.facts.Facts.of.Goals as goal
use Rattle.pass_waldo.proofs.Loading.{fine_at}

pub loop-one-init : goal.loop-one-init
loop-one-init c = record { facts = c.new-facts.ensures; rest = c.requires }

pub loop-one-preserved : goal.loop-one-preserved
loop-one-preserved c =
    let xs : List Record = c.args.records.now in
    let k : ℕ = c.loop-one.one-index in
    let r : Record = c.one-item.result in
    let front : take (k + 1) xs ≡ take k xs ++ r ∷ [] = take_more xs k r c.loop-one-test.true ∙ ap (λ x. take k xs ++ x ∷ []) (sym c.one-item.is) in
    let fine = fine_at xs k r c.loop-one-test.true c.one-item.is c.loop-one.invariant.rest in
    record {
      facts = subst (λ l. AreFacts l c.note.new.self) (sym front) (c.in_ok-note.ensures (take k xs) fine.0 c.loop-one.invariant.facts);
      rest = ap (λ l. first_flaw_after l (drop (k + 1) xs)) front ∙ fine.1;
    }
