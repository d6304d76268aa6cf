use Rattle.std.proofs.Common.{ℕ, ◌≡◌, ◌+◌, ◌∙◌, sym, ap, subst, List, [], ◌∷◌, ◌++◌, take, drop}
use Rattle.std.proofs.lemmas.List.{take_more}
use Rattle.pass_entry.specs.declared.record.Record.{Record}
use Rattle.pass_plain.specs.WellLogged.{first_flaw_after}
use Rattle.pass_waldo.specs.Index.{AreEdges}
use Rattle.pass_waldo.proofs.Indexing.{none_edges}
use Rattle.pass_waldo.proofs.Loading.{fine_at, fine_numbered}
use Rattle.pass_waldo.proofs.edges.Edges.of.Goals as goal

pub loop-one-init : goal.loop-one-init
loop-one-init c = record { edges = none_edges c.new-edges.result c.new-edges.ensures.parents c.new-edges.ensures.children; rest = c.requires }

pub note-requires-clause-numbered : goal.note-requires-clause-numbered
note-requires-clause-numbered c =
    let xs : List Record = c.args.records.now in
    let k : ℕ = c.loop-one.one-index in
    fine_numbered (take k xs) c.one-item.result (fine_at xs k c.one-item.result c.loop-one-test.true c.one-item.is c.loop-one.invariant.rest).0

pub note-requires-clause-sorted : goal.note-requires-clause-sorted
note-requires-clause-sorted c = λ n. ((c.loop-one.invariant.edges.parents n).ascending, (c.loop-one.invariant.edges.children n).ascending)

pub loop-one-preserved : goal.loop-one-preserved
loop-one-preserved c =
    let xs : List Record = c.args.records.now in
    let k : ℕ = c.loop-one.one-index in
    let r : Record = c.one-item.result in
    let front : take (k + 1) xs ≡ take k xs ++ r ∷ [] = take_more xs k r c.loop-one-test.true ∙ ap (λ x. take k xs ++ x ∷ []) (sym c.one-item.is) in
    record {
      edges = subst (λ l. AreEdges l c.note.new.self) (sym front) (c.in_ok-note.ensures (take k xs) c.loop-one.invariant.edges);
      rest = ap (λ l. first_flaw_after l (drop (k + 1) xs)) front ∙ (fine_at xs k r c.loop-one-test.true c.one-item.is c.loop-one.invariant.rest).1;
    }
