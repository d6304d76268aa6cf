use Rattle.std.proofs.Common.{◌≡◌, ℕ, List, false, refl, ap, sym, ◌∙◌, subst, arith, length}
use Rattle.std.specs.Prelude.{None, Err}
use Rattle.pass_book.specs.Syncs.{durable}
use Rattle.pass_book.specs.Tokens.{DeskState}
use Rattle.pass_book.proofs.Backed.{durable_last}
use Rattle.pass_book.specs.declared.view.VaultSync.{VaultSync}
use Rattle.pass_clean.specs.Cleaned.{is_dirty}
use Rattle.pass_clean.proofs.Cleaning.{synced_law}
use Rattle.pass_keep.specs.declared.fault.KeepFault.{KeepFault}
use Rattle.pass_vault.specs.declared.vault.Receipt.{Receipt}
use Rattle.pass_vault.specs.Vaulted.{Vaulted, file_synced}
use Rattle.pass_safe.specs.Grounds.{ground_of}
use Rattle.pass_file.specs.Desks.{FileDeskView}
use Rattle.pass_safe.specs.Safes.{IsSafe, lost_in}
use Rattle.pass_safe.specs.declared.fault.SafeFault.TheVariants.{DiskFault, NoMemory}
use Rattle.pass_safe.proofs.Fitting.{by_fault, not_broken, safe_still, safe_lost, answered}
use Rattle.pass_safe.proofs.Lent.{seen_back, begins_back}
use Rattle.pass_safe.proofs.working.save_blocks.Goals as goal

pub back-requires-clause-seen : goal.back-requires-clause-seen
back-requires-clause-seen g c =
    let v = c.args.vault.now in
    let f = c.lend-lent.result.0 in
    let d = c.lend-lent.result.1 in
    let n = c.sync_file.new.desk in
    let e = c.sync_file.ensures in
    let mine = sym (ap (λ (v : FileDeskView). v.seen) c.lend-lent.ensures.file) in
    let same : n.seen ≡ f.seen = by_fault (n.seen ≡ f.seen) c.in-Err.fault
    (λ opened now is.
    let failed = e.failed opened now (c.in-Err.is ∙ ap (λ (k : KeepFault). Err k) is) in
    seen_back c.args.file.seen v.seen d v.syncs v.syncs n.seen c.requires.seen c.lend-lent.ensures.desk.2 failed.5 ∙ mine)
    (λ opened now is. not_broken g.J.Whose.book g.J.Opening.ground g.J.Opening.tells g.D.Disk.view v v c.requires.safe (e.only_broken opened now (c.in-Err.is ∙ ap (λ (k : KeepFault). Err k) is)))
    (λ is. ap (λ (t : DeskState). t.seen) (e.no_memory (c.in-Err.is ∙ ap (λ (k : KeepFault). Err k) is)).1 ∙ c.lend-lent.ensures.desk.2 ∙ mine) in
    begins_back f.what f.seen n.seen same

pub returns-in-Ok-clause-safe : goal.returns-in-Ok-clause-safe
returns-in-Ok-clause-safe g c =
    let v = c.args.vault.now in
    let w = c.sync_file.new.self in
    let d = c.lend-lent.result.1 in
    let n = c.sync_file.new.desk in
    let e = c.in-Ok.ensures in
    let seen : w.seen ≡ v.seen = ap (λ (v : Vaulted _). v.seen) e.done ∙ seen_back c.args.file.seen v.seen d v.syncs v.syncs n.seen c.requires.seen c.lend-lent.ensures.desk.2 e.met ∙ c.requires.seen in
    let few = c.requires.safe.few in
    let same = ap length seen in
    let whole = c.requires.safe.stands.1 in
    let last = ap (λ (v : Vaulted _). durable v.syncs) e.done ∙ durable_last v.syncs (file_synced d.what c.number-number.result (g.D.Disk.view w.disk).calls (durable v.syncs)) in
    safe_still g.J.Whose.book g.J.Opening.ground g.J.Opening.tells g.D.Disk.view v w c.requires.safe (ap (λ (v : Vaulted _). v.book) e.done) (ap ground_of e.done) c.sync_file.ensures.goes_on (omega (arith, few, same))
    e.made.1 (omega (arith, last, whole, same))

pub returns-in-Err-clause-safe : goal.returns-in-Err-clause-safe
returns-in-Err-clause-safe g c =
    let B = g.J.Whose.book in
    let laid = g.J.Opening.ground in
    let tells = g.J.Opening.tells in
    let view = g.D.Disk.view in
    let v = c.args.vault.now in
    let w = c.sync_file.new.self in
    let d = c.lend-lent.result.1 in
    let n = c.sync_file.new.desk in
    let e = c.sync_file.ensures in
    by_fault (IsSafe B laid tells view w (lost_in {T = Receipt} (Err c.fault_of.result))) c.in-Err.fault
    (λ opened now is.
    let failed = e.failed opened now (c.in-Err.is ∙ ap (λ (k : KeepFault). Err k) is) in
    let seen = ap (λ (v : Vaulted _). v.seen) failed.3 ∙ seen_back c.args.file.seen v.seen d v.syncs v.syncs n.seen c.requires.seen c.lend-lent.ensures.desk.2 failed.5 ∙ c.requires.seen in
    let few = c.requires.safe.few in
    let same = ap length seen in
    answered Receipt B laid tells view w c.fault_of.result (DiskFault opened now) (c.fault_of.ensures.disk opened now is)
    (safe_lost B laid tells view v w c.requires.safe (ap (λ (v : Vaulted _). v.book) failed.3) (ap ground_of failed.3) e.goes_on (omega (arith, few, same)) opened now failed.0 failed.1 failed.2 e.goes_on.1))
    (λ opened now is. not_broken B laid tells view v v c.requires.safe (e.only_broken opened now (c.in-Err.is ∙ ap (λ (k : KeepFault). Err k) is)))
    (λ is. answered Receipt B laid tells view w c.fault_of.result NoMemory (c.fault_of.ensures.memory is) (subst (λ (x : Vaulted _). IsSafe B laid tells view x None) (sym (e.no_memory (c.in-Err.is ∙ ap (λ (k : KeepFault). Err k) is)).0) c.requires.safe))

pub returns-in-Ok-clause-clean : goal.returns-in-Ok-clause-clean
returns-in-Ok-clause-clean g c =
    let S = g.J.Whose.book.session in
    let v = c.args.vault.now in
    let w = c.sync_file.new.self in
    let d = c.lend-lent.result.1 in
    let n = c.sync_file.new.desk in
    let e = c.in-Ok.ensures in
    let seen : w.seen ≡ v.seen = ap (λ (v : Vaulted _). v.seen) e.done ∙ seen_back c.args.file.seen v.seen d v.syncs v.syncs n.seen c.requires.seen c.lend-lent.ensures.desk.2 e.met ∙ c.requires.seen in
    let same = ap length seen in
    let whole = c.requires.safe.stands.1 in
    let s = file_synced d.what c.number-number.result (g.D.Disk.view w.disk).calls (durable v.syncs) in
    λ block low.
    subst (λ (o : ℕ). is_dirty S w.seen w.syncs o block ≡ false) c.lend-lent.ensures.desk.1
    (subst (λ (ss : List VaultSync). is_dirty S w.seen ss d.what block ≡ false) (sym (ap (λ (v : Vaulted _). v.syncs) e.done))
    (synced_law S w.seen v.syncs s c.number-number.result d.what block refl refl (omega (arith, whole, same))))
