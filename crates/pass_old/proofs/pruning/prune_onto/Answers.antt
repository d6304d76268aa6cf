use Rattle.std.proofs.Common.{◌≡◌, ◌∙◌, ◌⊎◌, ℕ, List, sym, subst}
use Rattle.std.specs.Prelude.{length, Result, IfOk}
use Rattle.pass_outside.specs.Moments.{IsDeviceWork}
use Rattle.pass_leaf.specs.Leaves.{Leaf}
use Rattle.pass_prune.specs.declared.fault.PruneFault.{PruneFault}
use Rattle.pass_prune.specs.Results.{HasPruned}
use Rattle.pass_status.specs.declared.status.Status.TheVariants as status
use Rattle.pass_old.specs.declared.status.OldStatus.TheVariants as old_status
use Rattle.pass_old.specs.Prunes.{kept_line, IsPrunedAs}
use Rattle.pass_old.proofs.Pruned.{refused_told, refused_absent, refused_work, kept_told, kept_absent, kept_work}
use Rattle.pass_old.proofs.pruning.prune_onto.Goals as goal

pub returns-in-Err-clause-told : goal.returns-in-Err-clause-told
returns-in-Err-clause-told g c =
    let p = c.prune-result in
    let view = g.F.Disk.view in
    let s = c.refused.result.status in
    let text = c.refused.result.text.items in
    subst (λ x. IsPrunedAs view c.args.index.now c.args.named.now c.args.leaves.now c.args.fresh x s text) (sym c.refused.ensures.fresh)
    (refused_told view c.args.index.now c.args.named.now c.args.leaves.now c.args.fresh p.result.fresh p.result.result s text c.in-Err.fault c.in-Err.is (c.refused.ensures.status ∙ c.prune_status.ensures)
    p.ensures.absent p.ensures.not_fresh p.ensures.stopped p.ensures.untouched)

pub returns-in-Err-clause-absent : goal.returns-in-Err-clause-absent
returns-in-Err-clause-absent g c =
    let p = c.prune-result in
    refused_absent g.F.Disk.view c.args.index.now c.args.named.now c.args.leaves.now c.args.fresh p.result.fresh p.result.result c.refused.result.status c.refused.result.text.items c.in-Err.fault c.in-Err.is
    (c.refused.ensures.status ∙ c.prune_status.ensures) p.ensures.absent

pub returns-in-Err-clause-work : goal.returns-in-Err-clause-work
returns-in-Err-clause-work g c =
    let p = c.prune-result in
    let view = g.F.Disk.view in
    let s = c.refused.result.status in
    subst (λ x. IsDeviceWork (view c.args.fresh) (view x) (s ≡ old_status.FreshFault)) (sym c.refused.ensures.fresh)
    (refused_work view c.args.index.now c.args.named.now c.args.leaves.now c.args.fresh p.result.fresh p.result.result s c.refused.result.text.items c.in-Err.fault c.in-Err.is (c.refused.ensures.status ∙ c.prune_status.ensures)
    p.ensures.stopped p.ensures.work)

pub returns-in-Ok-clause-told : goal.returns-in-Ok-clause-told
returns-in-Ok-clause-told g c =
    let p = c.prune-result in
    let view = g.F.Disk.view in
    let s = c.whole.result.status in
    let text = c.whole.result.text.items in
    let ends : ((s ≡ old_status.Same status.Done) × (text ≡ kept_line c.in-Ok.kept (length c.args.leaves.now))) ⊎ (s ≡ old_status.Same status.NoMemory) =
    subst (λ (l : List Leaf). ((s ≡ old_status.Same status.Done) × (text ≡ kept_line c.in-Ok.kept (length l))) ⊎ (s ≡ old_status.Same status.NoMemory)) c.list.ensures.list c.whole.ensures.judged in
    subst (λ x. IsPrunedAs view c.args.index.now c.args.named.now c.args.leaves.now c.args.fresh x s text) (sym c.whole.ensures.fresh)
    (kept_told view c.args.index.now c.args.named.now c.args.leaves.now c.args.fresh p.result.fresh p.result.result s text c.in-Ok.kept c.in-Ok.is
    (subst (λ (r : Result ℕ PruneFault). IfOk r (HasPruned view c.args.index.now c.args.named.now c.args.leaves.now c.args.fresh p.result.fresh)) c.in-Ok.is p.ensures.pruned) ends)

pub returns-in-Ok-clause-absent : goal.returns-in-Ok-clause-absent
returns-in-Ok-clause-absent g c =
    let p = c.prune-result in
    kept_absent g.F.Disk.view c.args.index.now c.args.named.now c.args.leaves.now c.args.fresh p.result.fresh p.result.result c.whole.result.status c.whole.result.text.items c.in-Ok.kept c.in-Ok.is p.ensures.absent

pub returns-in-Ok-clause-work : goal.returns-in-Ok-clause-work
returns-in-Ok-clause-work g c =
    let p = c.prune-result in
    let view = g.F.Disk.view in
    let s = c.whole.result.status in
    let text = c.whole.result.text.items in
    let ends : ((s ≡ old_status.Same status.Done) × (text ≡ kept_line c.in-Ok.kept (length c.args.leaves.now))) ⊎ (s ≡ old_status.Same status.NoMemory) =
    subst (λ (l : List Leaf). ((s ≡ old_status.Same status.Done) × (text ≡ kept_line c.in-Ok.kept (length l))) ⊎ (s ≡ old_status.Same status.NoMemory)) c.list.ensures.list c.whole.ensures.judged in
    subst (λ x. IsDeviceWork (view c.args.fresh) (view x) (s ≡ old_status.FreshFault)) (sym c.whole.ensures.fresh)
    (kept_work view c.args.index.now c.args.named.now c.args.leaves.now c.args.fresh p.result.fresh p.result.result s text c.in-Ok.kept c.in-Ok.is ends p.ensures.work)
