use Rattle.std.proofs.Common.{ℕ, ◌≡◌, ◌∙◌, ap, List, take}
use Rattle.std.specs.Prelude.{Option, None}
use Rattle.std.specs.HashMap.{get}
use Rattle.pass_entry.specs.declared.objects.Node.{Node}
use Rattle.pass_entry.specs.declared.record.Record.{Record}
use Rattle.pass_plain.specs.Versions.{same_node}
use Rattle.pass_files.specs.Told.{ran_look, ran_of}
use Rattle.pass_files.specs.declared.facts.Ran.{Ran}
use Rattle.pass_files.proofs.Folding.{fold_more}
use Rattle.pass_files.proofs.facts.runs_of.Goals as goal

pub loop-one-preserved : goal.loop-one-preserved
loop-one-preserved c =
    let xs : List Record = c.args.records.now in
    let k : ℕ = c.loop-one.one-index in
    let r : Record = c.one-item.result in
    λ n.
    let same : (λ m. get same_node c.loop-one.runs m) ≡ ran_of (take k xs) = λ i m. c.loop-one.invariant m i in
    c.in_ok-note_run.ensures n ∙ ap (λ (was : Node → Option Ran). ran_look was r n) same ∙ ap (λ (was : Node → Option Ran). was n) (fold_more ran_look (λ _. None) xs k r c.loop-one-test.true c.one-item.is)
