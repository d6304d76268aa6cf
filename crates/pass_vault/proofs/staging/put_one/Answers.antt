use Rattle.std.proofs.Common.{◌∙◌, ◌∷◌, [], true, sym, ap, subst}
use Rattle.pass_pool.specs.declared.pool.Evicted.{Evicted}
use Rattle.pass_pool.specs.declared.pool.FileBlock.{FileBlock}
use Rattle.pass_pool.specs.Pools.{pushed_out}
use Rattle.pass_keep.specs.declared.block.Block.{Block}
use Rattle.pass_keep.specs.Keepers.{disk_of, log_of, Failed}
use Rattle.pass_log.specs.Log.{log_opened}
use Rattle.pass_vault.specs.Pooled.{Blocks}
use Rattle.pass_vault.specs.Saves.{Stages, StagesNone}
use Rattle.pass_vault.proofs.Handing.{on_failed, evicted_none, evicted_some}
use Rattle.pass_vault.proofs.Putting.{stages_kept, out_sized, stages_pushed, stages_lost}
use Rattle.pass_vault.proofs.staging.put_one.Goals as goal
use Rattle.pass_entry.proofs.Variants.{on_both}

pub returns-in_default-clause-kept : goal.returns-in_default-clause-kept
returns-in_default-clause-kept g c =
    let k = c.args.keeper.now in
    let u = c.args.unwritten.now in
    let key : FileBlock = record { number = c.args.number; block = c.args.block } in
    subst (λ (p : Blocks). Stages g.D.Disk.view c.args.number ((c.args.block, c.args.bytes) ∷ []) k u k (record { pool = p; unsynced = u.unsynced })) (sym c.in_ok-out.ensures.pairs)
    (stages_kept g.D.Disk.view k u c.args.number (c.args.block, c.args.bytes) c.len-len.ensures.fits (evicted_none (pushed_out u.pool key) (sym c.in_ok-out.ensures.evicted ∙ c.in_default.is)))

pub put-requires-2 : goal.put-requires-2
put-requires-2 g c =
    let u = c.args.unwritten.now in
    let key : FileBlock = record { number = c.args.number; block = c.args.block } in
    let x : Block = record { number = c.in-Some.out.number; block = c.in-Some.out.block; bytes = c.as_bytes.result } in
    let e = evicted_some (pushed_out u.pool key) c.in-Some.out (sym c.in_ok-out.ensures.evicted ∙ c.in-Some.is) in
    record {
      sized = out_sized g.D.Disk.view c.args.keeper.now u c.args.number (c.args.block, c.args.bytes) c.len-len.ensures.fits e.0 e.1 x
          (ap (λ (o : Evicted). o.number) (sym e.2)) (ap (λ (o : Evicted). o.block) (sym e.2)) (c.as_bytes.ensures.bytes ∙ ap (λ (o : Evicted). o.bytes) (sym e.2)) c.requires.known;
    }

pub returns-clause-kept : goal.returns-clause-kept
returns-clause-kept g c =
    let k = c.args.keeper.now in
    let u = c.args.unwritten.now in
    let new = c.put-2.new.self in
    let key : FileBlock = record { number = c.args.number; block = c.args.block } in
    let x : Block = record { number = c.in-Some.out.number; block = c.in-Some.out.block; bytes = c.as_bytes.result } in
    let e = evicted_some (pushed_out u.pool key) c.in-Some.out (sym c.in_ok-out.ensures.evicted ∙ c.in-Some.is) in
    let r = c.put-2.ensures in
    on_both c.put-2.result (λ held seen. subst (λ (p : Blocks). Stages g.D.Disk.view c.args.number ((c.args.block, c.args.bytes) ∷ []) k u new (record { pool = p; unsynced = true })) (sym c.in_ok-out.ensures.pairs)
    (stages_pushed g.D.Disk.view k u c.args.number (c.args.block, c.args.bytes) c.len-len.ensures.fits e.0 e.1 x
    (ap (λ (o : Evicted). o.number) (sym e.2)) (ap (λ (o : Evicted). o.block) (sym e.2)) (c.as_bytes.ensures.bytes ∙ ap (λ (o : Evicted). o.bytes) (sym e.2))
    new r.kept r.goes_on r.log r.durable held seen)) r.held r.seen

pub returns-clause-still : goal.returns-clause-still
returns-clause-still g c =
    let k = c.args.keeper.now in
    let u = c.args.unwritten.now in
    let new = c.put-2.new.self in
    let key : FileBlock = record { number = c.args.number; block = c.args.block } in
    let x : Block = record { number = c.in-Some.out.number; block = c.in-Some.out.block; bytes = c.as_bytes.result } in
    let e = evicted_some (pushed_out u.pool key) c.in-Some.out (sym c.in_ok-out.ensures.evicted ∙ c.in-Some.is) in
    let r = c.put-2.ensures in
    on_failed (Failed (log_opened (log_of k)) (g.D.Disk.view (disk_of k)) (g.D.Disk.view (disk_of new))) (StagesNone g.D.Disk.view c.args.number ((c.args.block, c.args.bytes) ∷ []) k u new (record { pool = c.put.new.self; unsynced = true })) c.put-2.result
    (λ fault failed. subst (λ (p : Blocks). StagesNone g.D.Disk.view c.args.number ((c.args.block, c.args.bytes) ∷ []) k u new (record { pool = p; unsynced = true })) (sym c.in_ok-out.ensures.pairs)
    (stages_lost g.D.Disk.view k u c.args.number (c.args.block, c.args.bytes) c.len-len.ensures.fits e.0 e.1 x
    (ap (λ (o : Evicted). o.number) (sym e.2)) (ap (λ (o : Evicted). o.block) (sym e.2)) (c.as_bytes.ensures.bytes ∙ ap (λ (o : Evicted). o.bytes) (sym e.2))
    new r.kept r.goes_on r.log r.durable failed.1))
    r.failed
