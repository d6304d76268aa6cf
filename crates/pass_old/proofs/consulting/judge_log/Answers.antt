use Rattle.std.proofs.Common.{ℕ, inl, inr, sym, ap, ◌∙◌}
use Rattle.pass_entry.proofs.Variants.{err_inside}
use Rattle.pass_recover.specs.declared.fault.OpenFault.TheVariants.{DiskFault}
use Rattle.pass_status.specs.Statuses.{status_of_opening}
use Rattle.pass_old.specs.Consults.{is_same}
use Rattle.pass_old.specs.declared.status.OldStatus.TheVariants as old_status
use Rattle.pass_old.proofs.Consulted.{both_same, both_unwritten}
use Rattle.pass_old.proofs.Steps.{opening_writes}
use Rattle.pass_old.proofs.consulting.judge_log.Goals as goal

pub returns-in-Ok-clause-judged : goal.returns-in-Ok-clause-judged
returns-in-Ok-clause-judged g c = inr (record {
  list = c.in-Ok.index;
  logged = c.in-Ok.ensures.read;
  told = c.told_by_both.ensures;
  still = record { faults = c.in-Ok.ensures.no_fault (λ err. absurd (cc)); seen = c.in-Ok.ensures.stays (λ err. absurd (cc)) };
})

pub returns-in-Ok-clause-own : goal.returns-in-Ok-clause-own
returns-in-Ok-clause-own g c = both_same c.in-Ok.index c.args.leaves.now c.args.question.now c.told_by_both.result.status c.told_by_both.result.text.items c.told_by_both.ensures

pub returns-in-Ok-clause-no_write : goal.returns-in-Ok-clause-no_write
returns-in-Ok-clause-no_write g c = both_unwritten c.in-Ok.index c.args.leaves.now c.args.question.now c.told_by_both.result.status c.told_by_both.result.text.items c.told_by_both.ensures

pub returns-in-Err-clause-judged : goal.returns-in-Err-clause-judged
returns-in-Err-clause-judged g c = inl (record {
  fault = c.in-Err.fault;
  is = c.refused.ensures.status ∙ ap (λ s. old_status.Same s) (c.opening_status-status.ensures ∙ ap (λ (opened : ℕ). status_of_opening opened c.faults.result c.in-Err.fault) c.faults-opened.ensures
      ∙ ap (λ (now : ℕ). status_of_opening (g.D.Disk.view c.args.disk.now).faults now c.in-Err.fault) c.faults.ensures);
  cause = c.in-Err.ensures.fault;
  still = λ other. record {
    faults = c.in-Err.ensures.no_fault (λ err. other (err_inside c.in-Err.fault DiskFault err));
    seen = c.in-Err.ensures.stays (λ err. other (err_inside c.in-Err.fault DiskFault err));
  };
})

pub returns-in-Err-clause-own : goal.returns-in-Err-clause-own
returns-in-Err-clause-own g c = ap is_same c.refused.ensures.status

pub returns-in-Err-clause-no_write : goal.returns-in-Err-clause-no_write
returns-in-Err-clause-no_write g c = λ is. opening_writes c.faults-opened.result c.faults.result c.in-Err.fault c.opening_status-status.result c.opening_status-status.ensures (sym c.refused.ensures.status ∙ is)
