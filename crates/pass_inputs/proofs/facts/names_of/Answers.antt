use Rattle.std.proofs.Common.{ℕ, ◌∙◌, ap, List}
use Rattle.std.specs.Prelude.{None}
use Rattle.pass_inputs.specs.Inputs.{given_look}
use Rattle.pass_entry.specs.declared.record.Record.{Record}
use Rattle.pass_inputs.proofs.Rows.{fold_more}
use Rattle.pass_inputs.proofs.facts.names_of.Goals as goal

pub loop-one-preserved : goal.loop-one-preserved
loop-one-preserved c =
    let xs : List Record = c.args.records.now in
    let k : ℕ = c.loop-one.one-index in
    let r : Record = c.one-item.result in
    λ o. c.in_ok-note_name.ensures o ∙ ap (λ was. given_look o was r) (c.loop-one.invariant o) ∙ fold_more (given_look o) None xs k r c.loop-one-test.true c.one-item.is
