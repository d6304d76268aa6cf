use Rattle.std.proofs.Common.{◌+◌, ◌∙◌, ℕ, Bool, false, length, sym, ap, subst, arith}
use Rattle.std.proofs.lemmas.Result.{on_ok_weaker}
use Rattle.pass_keep.specs.Keepers.{disk_of}
use Rattle.pass_vault.specs.Pooled.{sync_calls}
use Rattle.pass_vault.specs.Waiting.{IsLanded}
use Rattle.pass_vault.proofs.Handing.{sync_count}
use Rattle.pass_vault.proofs.Waiting.{lands_beside, lands_idle}
use Rattle.pass_vault.proofs.steps.write.Goals as goal
use Rattle.pass_entry.proofs.Variants.{on_both}

pub returns-then-is_idle-clause-kept : goal.returns-then-is_idle-clause-kept
returns-then-is_idle-clause-kept g c = let idle = c.is_idle.ensures.idle c.if-is_idle.true in λ past files keeper written none. c.clean.ensures.kept past files keeper (none idle.0 idle.1)

pub returns-then-is_idle-clause-lands : goal.returns-then-is_idle-clause-lands
returns-then-is_idle-clause-lands g c =
    let idle = c.is_idle.ensures.idle c.if-is_idle.true in
    let k = c.args.keeper.now in
    let view = g.D.Disk.view in
    λ number since other block bytes own low apart limited short was.
    subst (λ d. IsLanded (view d) false (view d).calls other block bytes) (sym c.clean.ensures.disk)
    (lands_idle (view (disk_of k)) since other block bytes low (λ t u i le left. g.met.D.Disk.counts_more k.disk t u i le left)
    (subst (λ (u : Bool). IsLanded (view (disk_of k)) u since other block bytes) idle.1 was))

pub returns-then-is_idle-clause-made : goal.returns-then-is_idle-clause-made
returns-then-is_idle-clause-made g c =
    let idle = c.is_idle.ensures.idle c.if-is_idle.true in
    let none = ap (λ (u : Bool). sync_calls u (length c.args.blocks.now)) idle.1 ∙ ap (sync_calls false) idle.0 in
    let same = ap (λ d. (g.D.Disk.view d).calls) c.clean.ensures.disk in
    (omega (arith, none, same), ap (λ d. (g.D.Disk.view d).faults) c.clean.ensures.disk)

pub returns-clause-kept : goal.returns-clause-kept
returns-clause-kept g c = on_ok_weaker c.write.result (λ synced past files keeper written none. synced past files keeper written) c.write.ensures.kept

pub returns-clause-lands : goal.returns-clause-lands
returns-clause-lands g c =
    let view = g.D.Disk.view in
    on_both c.write.result (λ seen whole number since other block bytes own low apart limited short was.
    lands_beside (view (disk_of c.args.keeper.now)) (view (disk_of c.write.new.self)) c.args.blocks.now number own c.requires.sized c.write.ensures.goes_on.0 seen whole c.args.unsynced since other block bytes apart limited short was) c.write.ensures.seen c.write.ensures.whole

pub returns-clause-made : goal.returns-clause-made
returns-clause-made g c =
    on_ok_weaker c.write.result (λ made. (
      made.0 ∙ ap (λ (n : ℕ). (g.D.Disk.view (disk_of c.args.keeper.now)).calls + n) (sym (sync_count c.args.unsynced (length c.args.blocks.now) (c.is_idle.ensures.busy c.if-is_idle.false))),
      made.1,
    )) c.write.ensures.made
