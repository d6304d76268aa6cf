use Rattle.std.proofs.Common.{◌≡◌, ℕ, inl, inr, sym, ap, ◌∙◌}
use Rattle.pass_entry.proofs.Variants.{err_inside}
use Rattle.pass_recover.specs.declared.fault.OpenFault.TheVariants.{DiskFault}
use Rattle.pass_status.specs.Statuses.{status_of_opening}
use Rattle.pass_old.specs.declared.status.OldStatus.TheVariants as old_status
use Rattle.pass_old.proofs.Pruned.{pruned_not, unread_work}
use Rattle.pass_old.proofs.pruning.prune_by_log.Goals as goal

pub returns-in-Ok-clause-by : goal.returns-in-Ok-clause-by
returns-in-Ok-clause-by g c = inr (record {
  list = c.in-Ok.index;
  logged = c.in-Ok.ensures.read;
  told = record { told = c.prune_onto.ensures.told; absent = c.prune_onto.ensures.absent };
  still = record { faults = c.in-Ok.ensures.no_fault (λ err. absurd (cc)); seen = c.in-Ok.ensures.stays (λ err. absurd (cc)) };
})

pub returns-in-Ok-clause-no_archive : goal.returns-in-Ok-clause-no_archive
returns-in-Ok-clause-no_archive g c = (pruned_not g.F.Disk.view c.in-Ok.index c.args.named.now c.args.leaves.now c.args.fresh c.prune_onto.result.fresh c.prune_onto.result.status c.prune_onto.result.text.items c.prune_onto.ensures.told).0

pub returns-in-Err-clause-by : goal.returns-in-Err-clause-by
returns-in-Err-clause-by g c = inl (
  c.refused.ensures.fresh,
  record {
    fault = c.in-Err.fault;
    is = c.refused.ensures.status ∙ ap (λ s. old_status.Same s) (c.opening_status-status.ensures ∙ ap (λ (opened : ℕ). status_of_opening opened c.faults.result c.in-Err.fault) c.faults-opened.ensures
        ∙ ap (λ (now : ℕ). status_of_opening (g.D.Disk.view c.args.disk.now).faults now c.in-Err.fault) c.faults.ensures);
    cause = c.in-Err.ensures.fault;
    still = λ other. record {
      faults = c.in-Err.ensures.no_fault (λ err. other (err_inside c.in-Err.fault DiskFault err));
      seen = c.in-Err.ensures.stays (λ err. other (err_inside c.in-Err.fault DiskFault err));
    };
  },
)

pub returns-in-Err-clause-work : goal.returns-in-Err-clause-work
returns-in-Err-clause-work g c = unread_work g.F.Disk.view c.args.fresh c.refused.result.fresh c.refused.result.status c.refused.ensures.fresh (λ is. let z : old_status.Same c.opening_status-status.result ≡ old_status.FreshFault = sym c.refused.ensures.status ∙ is in cc)

pub returns-in-Err-clause-no_archive : goal.returns-in-Err-clause-no_archive
returns-in-Err-clause-no_archive g c = λ is. let z : old_status.Same c.opening_status-status.result ≡ old_status.ArchiveFault = sym c.refused.ensures.status ∙ is in cc
