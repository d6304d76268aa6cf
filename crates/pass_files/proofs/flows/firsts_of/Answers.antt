use Rattle.std.proofs.Common.{ℕ, ◌∙◌, ap, List}
use Rattle.std.specs.Prelude.{None}
use Rattle.pass_files.specs.Data.{first_look}
use Rattle.pass_entry.specs.declared.record.Record.{Record}
use Rattle.pass_files.proofs.Folding.{fold_more}
use Rattle.pass_files.proofs.flows.firsts_of.Goals as goal

pub loop-one-preserved : goal.loop-one-preserved
loop-one-preserved c =
    let xs : List Record = c.args.records.now in
    let k : ℕ = c.loop-one.one-index in
    let r : Record = c.one-item.result in
    λ n. c.in_ok-note_first.ensures n ∙ ap (λ was. first_look n was r) (c.loop-one.invariant n) ∙ fold_more (first_look n) None xs k r c.loop-one-test.true c.one-item.is
