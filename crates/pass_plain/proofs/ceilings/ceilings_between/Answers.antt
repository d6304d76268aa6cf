use Rattle.std.proofs.Common.{◌-◌, ◌+◌, ◌++◌, ◌∷◌, [], ap, sym, ◌∙◌, append_assoc, arith}
use Rattle.pass_entry.specs.declared.record.Record.TheVariants as log
use Rattle.pass_plain.specs.Ceilings.{ceiling_step, ceilings_between}
use Rattle.pass_plain.proofs.Raising.{next_ceiling, one_ceiling_law}
use Rattle.pass_plain.proofs.ceilings.ceilings_between.Goals as goal

pub steps-preserved : goal.steps-preserved
steps-preserved c =
    let at = c.steps.ceiling in
    let before = c.steps.records.items in
    record {
      low = omega arith;
      records =
          ap (λ rs. rs ++ ceilings_between (at + ceiling_step) c.args.to) c.in_ok-push.ensures.items
          ∙ append_assoc before (log.Ceiling (at + ceiling_step) ∷ []) (ceilings_between (at + ceiling_step) c.args.to)
          ∙ ap (λ rs. before ++ rs) (sym (next_ceiling at c.args.to (omega arith)))
          ∙ c.steps.invariant.records;
    }

pub returns : goal.returns
returns c =
    c.in_ok-push-2.ensures.items
    ∙ ap (λ rs. c.steps.records.items ++ rs) (sym (one_ceiling_law c.steps.ceiling c.args.to (omega arith)))
    ∙ c.steps.invariant.records
