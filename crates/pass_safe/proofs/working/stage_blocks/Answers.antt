use Rattle.std.proofs.Common.{◌≡◌, ◌++◌, ◌∷◌, [], ℕ, List, ap, sym, ◌∙◌, subst, arith, length}
use Rattle.std.specs.Prelude.{Err}
use Rattle.pass_entry.specs.declared.entry.Entry.{Entry}
use Rattle.pass_book.specs.Names.{name, Listed}
use Rattle.pass_book.specs.Syncs.{durable}
use Rattle.pass_book.specs.Tokens.{DeskState}
use Rattle.pass_book.specs.declared.view.Role.TheVariants as role
use Rattle.pass_book.specs.declared.view.VaultSync.{VaultSync}
use Rattle.pass_book.proofs.Backed.{durable_last}
use Rattle.pass_keep.specs.declared.fault.KeepFault.{KeepFault}
use Rattle.pass_vault.specs.Pooled.{staged_all}
use Rattle.pass_vault.specs.Vaulted.{Vaulted, file_staged}
use Rattle.pass_safe.specs.Grounds.{ground_of}
use Rattle.pass_file.specs.Desks.{FileDeskView}
use Rattle.pass_safe.specs.Commits.{unstaged_to}
use Rattle.pass_safe.specs.Safes.{IsSafe, lost_in}
use Rattle.pass_safe.specs.declared.fault.SafeFault.TheVariants.{DiskFault, NoMemory}
use Rattle.pass_safe.proofs.Fitting.{answered, by_fault, not_broken, safe_lost, safe_still}
use Rattle.pass_safe.proofs.Lent.{begins_back, seen_back}
use Rattle.pass_safe.proofs.working.stage_blocks.Goals as goal

pub back-requires-clause-seen : goal.back-requires-clause-seen
back-requires-clause-seen g c =
    let v = c.args.vault.now in
    let f = c.lend-lent.result.0 in
    let d = c.lend-lent.result.1 in
    let n = c.stage.new.desk in
    let e = c.stage.ensures in
    let mine = sym (ap (λ (v : FileDeskView). v.seen) c.lend-lent.ensures.file) in
    let same : n.seen ≡ f.seen = by_fault (n.seen ≡ f.seen) c.in-Err.fault
    (λ opened now is. seen_back c.args.file.seen v.seen d v.syncs v.syncs n.seen c.requires.seen c.lend-lent.ensures.desk.2 (e.failed opened now (c.in-Err.is ∙ ap (λ (k : KeepFault). Err k) is)).5 ∙ mine)
    (λ opened now is. not_broken g.J.Whose.book g.J.Opening.ground g.J.Opening.tells g.D.Disk.view v v c.requires.safe (e.only_broken opened now (c.in-Err.is ∙ ap (λ (k : KeepFault). Err k) is)))
    (λ is. seen_back c.args.file.seen v.seen d v.syncs v.syncs n.seen c.requires.seen c.lend-lent.ensures.desk.2 (e.no_memory (c.in-Err.is ∙ ap (λ (k : KeepFault). Err k) is)).3 ∙ mine) in
    begins_back f.what f.seen n.seen same

pub back-requires-clause-listed : goal.back-requires-clause-listed
back-requires-clause-listed g c =
    let v = c.args.vault.now in
    let f = c.lend-lent.result.0 in
    let d = c.lend-lent.result.1 in
    let n = c.stage.new.desk in
    let e = c.stage.ensures in
    let what = ap (λ (v : FileDeskView). v.what) c.lend-lent.ensures.file ∙ sym c.lend-lent.ensures.desk.1 in
    let known = ap (λ (v : FileDeskView). v.syncs) c.lend-lent.ensures.file ∙ sym c.lend-lent.ensures.desk.3 in
    by_fault (Listed (name role.Desk f.what) f.syncs n.syncs) c.in-Err.fault
    (λ opened now is.
    let failed = e.failed opened now (c.in-Err.is ∙ ap (λ (k : KeepFault). Err k) is) in
    listed_back f d v.syncs n.syncs what known (ap (λ (t : DeskState). t.syncs) failed.4 ∙ ap (λ (v : Vaulted _). v.syncs) failed.3) failed.5.complete)
    (λ opened now is. not_broken g.J.Whose.book g.J.Opening.ground g.J.Opening.tells g.D.Disk.view v v c.requires.safe (e.only_broken opened now (c.in-Err.is ∙ ap (λ (k : KeepFault). Err k) is)))
    (λ is.
    let none = e.no_memory (c.in-Err.is ∙ ap (λ (k : KeepFault). Err k) is) in
    listed_back f d v.syncs n.syncs what known (ap (λ (t : DeskState). t.syncs) none.2 ∙ ap (λ (v : Vaulted _). v.syncs) none.1) none.3.complete)
  where
    listed_back : (f : FileDeskView) (d : DeskState) (ss us : List VaultSync) → f.what ≡ d.what → f.syncs ≡ d.syncs → us ≡ ss → Listed (name role.Desk d.what) d.syncs ss → Listed (name role.Desk f.what) f.syncs us
    listed_back f d ss us what known same listed =
        subst (λ (l : List VaultSync). Listed (name role.Desk f.what) f.syncs l) (sym same)
        (subst (λ (l : List VaultSync). Listed (name role.Desk f.what) l ss) (sym known) (subst (λ (o : ℕ). Listed (name role.Desk o) d.syncs ss) (sym what) listed))

pub returns-in-Ok-clause-safe : goal.returns-in-Ok-clause-safe
returns-in-Ok-clause-safe g c =
    let v = c.args.vault.now in
    let w = c.stage.new.self in
    let d = c.lend-lent.result.1 in
    let n = c.stage.new.desk in
    let e = c.in-Ok.ensures in
    let seen : w.seen ≡ v.seen = ap (λ (v : Vaulted _). v.seen) e.done ∙ seen_back c.args.file.seen v.seen d v.syncs v.syncs n.seen c.requires.seen c.lend-lent.ensures.desk.2 e.met ∙ c.requires.seen in
    let few = c.requires.safe.few in
    let same = ap length seen in
    let whole = c.requires.safe.stands.1 in
    let s = file_staged d.what c.number-number.result (g.D.Disk.view w.disk).calls (durable v.syncs) c.args.blocks.now in
    let last = ap (λ (v : Vaulted _). durable v.syncs) e.done ∙ durable_last v.syncs s in
    safe_still g.J.Whose.book g.J.Opening.ground g.J.Opening.tells g.D.Disk.view v w c.requires.safe (ap (λ (v : Vaulted _). v.book) e.done) (ap ground_of e.done) c.stage.ensures.goes_on (omega (arith, few, same))
    e.made.1 (omega (arith, last, whole, same))

pub returns-in-Err-clause-safe : goal.returns-in-Err-clause-safe
returns-in-Err-clause-safe g c =
    let B = g.J.Whose.book in
    let laid = g.J.Opening.ground in
    let tells = g.J.Opening.tells in
    let view = g.D.Disk.view in
    let v = c.args.vault.now in
    let w = c.stage.new.self in
    let d = c.lend-lent.result.1 in
    let n = c.stage.new.desk in
    let e = c.stage.ensures in
    let few = c.requires.safe.few in
    by_fault (IsSafe B laid tells view w (lost_in {T = Unit {0}} (Err c.fault_of.result))) c.in-Err.fault
    (λ opened now is.
    let failed = e.failed opened now (c.in-Err.is ∙ ap (λ (k : KeepFault). Err k) is) in
    let seen = ap (λ (v : Vaulted _). v.seen) failed.3 ∙ seen_back c.args.file.seen v.seen d v.syncs v.syncs n.seen c.requires.seen c.lend-lent.ensures.desk.2 failed.5 ∙ c.requires.seen in
    let same = ap length seen in
    answered (Unit {0}) B laid tells view w c.fault_of.result (DiskFault opened now) (c.fault_of.ensures.disk opened now is)
    (safe_lost B laid tells view v w c.requires.safe (ap (λ (v : Vaulted _). v.book) failed.3) (ap ground_of failed.3) e.goes_on (omega (arith, few, same)) opened now failed.0 failed.1 failed.2 e.goes_on.1))
    (λ opened now is. not_broken B laid tells view v v c.requires.safe (e.only_broken opened now (c.in-Err.is ∙ ap (λ (k : KeepFault). Err k) is)))
    (λ is.
    let none = e.no_memory (c.in-Err.is ∙ ap (λ (k : KeepFault). Err k) is) in
    let seen = ap (λ (v : Vaulted _). v.seen) none.1 ∙ seen_back c.args.file.seen v.seen d v.syncs v.syncs n.seen c.requires.seen c.lend-lent.ensures.desk.2 none.3 ∙ c.requires.seen in
    let same = ap length seen in
    let whole = c.requires.safe.stands.1 in
    let list = ap (λ (v : Vaulted _). durable v.syncs) none.1 in
    answered (Unit {0}) B laid tells view w c.fault_of.result NoMemory (c.fault_of.ensures.memory is)
    (safe_still B laid tells view v w c.requires.safe (ap (λ (v : Vaulted _). v.book) none.1) (ap ground_of none.1) e.goes_on (omega (arith, few, same)) none.0 (omega (arith, list, whole, same))))

pub returns-in-Ok-clause-done : goal.returns-in-Ok-clause-done
returns-in-Ok-clause-done g c =
    let v = c.args.vault.now in
    let w = c.stage.new.self in
    let f = c.args.file in
    let d = c.lend-lent.result.1 in
    let n = c.stage.new.desk in
    let e = c.in-Ok.ensures in
    let blocks = c.args.blocks.now in
    let calls = (g.D.Disk.view w.disk).calls in
    let seen : n.seen ≡ v.seen = seen_back f.seen v.seen d v.syncs v.syncs n.seen c.requires.seen c.lend-lent.ensures.desk.2 e.met ∙ c.requires.seen in
    let what = c.lend-lent.ensures.desk.1 in
    let number = c.number-number.ensures.number in
    let whole : durable v.syncs ≡ length f.seen = c.requires.safe.stands.1 ∙ sym (ap length c.requires.seen) in
    e.done
    ∙ (λ i. record v { seen = seen i; disk = w.disk; pool = staged_all v.pool (number i) blocks; unsynced = w.unsynced; syncs = v.syncs ++ file_staged (what i) (number i) calls (whole i) blocks ∷ [] })

pub returns-in-Err-clause-undone : goal.returns-in-Err-clause-undone
returns-in-Err-clause-undone g c =
    let v = c.args.vault.now in
    let w = c.stage.new.self in
    let d = c.lend-lent.result.1 in
    let n = c.stage.new.desk in
    let e = c.stage.ensures in
    let same : (seen : List Entry) → seen ≡ v.seen → record v { seen = seen; disk = w.disk; pool = w.pool; unsynced = w.unsynced } ≡ unstaged_to v w = λ seen is. λ i. record v { seen = is i; disk = w.disk; pool = w.pool; unsynced = w.unsynced } in
    by_fault (w ≡ unstaged_to v w) c.in-Err.fault
    (λ opened now is.
    let failed = e.failed opened now (c.in-Err.is ∙ ap (λ (k : KeepFault). Err k) is) in
    failed.3 ∙ same n.seen (seen_back c.args.file.seen v.seen d v.syncs v.syncs n.seen c.requires.seen c.lend-lent.ensures.desk.2 failed.5 ∙ c.requires.seen))
    (λ opened now is. not_broken g.J.Whose.book g.J.Opening.ground g.J.Opening.tells g.D.Disk.view v v c.requires.safe (e.only_broken opened now (c.in-Err.is ∙ ap (λ (k : KeepFault). Err k) is)))
    (λ is.
    let none = e.no_memory (c.in-Err.is ∙ ap (λ (k : KeepFault). Err k) is) in
    none.1 ∙ same n.seen (seen_back c.args.file.seen v.seen d v.syncs v.syncs n.seen c.requires.seen c.lend-lent.ensures.desk.2 none.3 ∙ c.requires.seen))
