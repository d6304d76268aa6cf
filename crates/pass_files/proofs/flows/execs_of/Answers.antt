use Rattle.std.proofs.Common.{ℕ, ◌∙◌, ap, List}
use Rattle.std.specs.Prelude.{◌||◌}
use Rattle.pass_files.specs.Data.{gives_program}
use Rattle.pass_entry.specs.declared.record.Record.{Record}
use Rattle.pass_files.proofs.Folding.{any_more}
use Rattle.pass_files.proofs.flows.execs_of.Goals as goal

pub loop-one-preserved : goal.loop-one-preserved
loop-one-preserved c =
    let xs : List Record = c.args.records.now in
    let k : ℕ = c.loop-one.one-index in
    let r : Record = c.one-item.result in
    λ n. c.in_ok-note_exec.ensures n ∙ ap (λ was. was || gives_program n r) (c.loop-one.invariant n) ∙ any_more (gives_program n) xs k r c.loop-one-test.true c.one-item.is
