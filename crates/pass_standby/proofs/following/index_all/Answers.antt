use Rattle.std.proofs.Common.{◌++◌, List, take, drop, ap, ◌∙◌, append_assoc, take-append-drop}
use Rattle.pass_entry.specs.declared.record.Record.{Record}
use Rattle.pass_standby.proofs.following.index_all.Goals as goal

pub returns-in-Err-clause-err : goal.returns-in-Err-clause-err
returns-in-Err-clause-err c =
    let first : List Record = c.args.index.now in
    let batch : List Record = c.args.batch.now in
    let k = c.loop-one.one-index in (
      drop k batch,
      ap (λ (l : List Record). l ++ drop k batch) (c.in-Err.ensures.err ∙ c.loop-one.invariant) ∙ append_assoc first (take k batch) (drop k batch)
          ∙ ap (λ (l : List Record). first ++ l) (take-append-drop k batch),
    )
