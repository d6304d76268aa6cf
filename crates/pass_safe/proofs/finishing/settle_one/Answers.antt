use Rattle.std.proofs.Common.{◌≡◌, ◌∙◌, List, [], ◌∷◌, ap, sym, subst, length}
use Rattle.std.specs.Prelude.{Option, IfSome}
use Rattle.std.proofs.lemmas.Result.{IfOk-at_ok}
use mathlib.Core.List.{IsPrefix}
use Rattle.pass_entry.specs.declared.entry.Entry.{Entry}
use Rattle.pass_book.proofs.Prefixes.{prefix_self}
use Rattle.pass_book.specs.declared.view.VaultSync.{VaultSync}
use Rattle.pass_file.specs.Desks.{FileDeskView}
use Rattle.pass_vault.specs.Vaulted.{Vaulted}
use Rattle.pass_vault.specs.declared.vault.Receipt.{Receipt}
use Rattle.pass_safe.specs.Safes.{Leaves, SafeView}
use Rattle.pass_safe.specs.Settled.{AreSettled, IsClean, settled_to}
use Rattle.pass_safe.proofs.Leaving.{leaves_err, leaves_ok}
use Rattle.pass_safe.proofs.Lent.{err_on, ok_on}
use Rattle.pass_safe.proofs.Settles.{grown_one, settled_one, settled_same, settled_seen, unsaved_same}
use Rattle.pass_safe.proofs.finishing.settle_one.Goals as goal

pub returns-in-Ok-clause-grows : goal.returns-in-Ok-clause-grows
returns-in-Ok-clause-grows g c =
    let f = c.join-file.result in
    let v = c.join-file.new.self.vault in
    let w = c.settle-file.new.self.vault in
    let o = c.in-Ok._receipt in
    let done = IfOk-at_ok (λ (o : Option Receipt). w ≡ settled_to v w f.what f.number o) c.in-Ok.is c.settle-file.ensures.done in
    let file = c.join-file.ensures.file in
    subst (λ (s : SafeView _). IsPrefix s.vault.syncs w.syncs) c.join-file.ensures.safe
    (grown_one (length f.seen) c.args.file f v w (ap (λ (f : FileDeskView). f.what) file) (ap (λ (f : FileDeskView). f.number) file) o done)

pub returns-in-Ok-clause-done : goal.returns-in-Ok-clause-done
returns-in-Ok-clause-done g c =
    let f = c.join-file.result in
    let v = c.join-file.new.self.vault in
    let w = c.settle-file.new.self.vault in
    let o = c.in-Ok._receipt in
    let done = IfOk-at_ok (λ (o : Option Receipt). w ≡ settled_to v w f.what f.number o) c.in-Ok.is c.settle-file.ensures.done in
    let told = IfOk-at_ok (λ (o : Option Receipt). IfSome o (λ r. r ≡ record { calls = (g.D.Disk.view w.disk).calls; entries = length f.seen })) c.in-Ok.is c.settle-file.ensures.receipt in
    let file = c.join-file.ensures.file in
    subst (λ (s : SafeView _). AreSettled (length c.args.shelf.now.history) (c.args.file ∷ []) s.vault.syncs w.syncs) c.join-file.ensures.safe
    (settled_one (length c.args.shelf.now.history) c.args.file f v w (ap (λ (f : FileDeskView). f.what) file) (ap (λ (f : FileDeskView). f.number) file) o (g.D.Disk.view w.disk).calls
    (ap (λ (f : FileDeskView). length f.seen) file) done told)

pub returns-in-Ok-clause-clean : goal.returns-in-Ok-clause-clean
returns-in-Ok-clause-clean g c =
    let S = g.J.Whose.book.session in
    let f = c.join-file.result in
    let v = c.join-file.new.self.vault in
    let w = c.settle-file.new.self.vault in
    let o = c.in-Ok._receipt in
    let done = IfOk-at_ok (λ (o : Option Receipt). w ≡ settled_to v w f.what f.number o) c.in-Ok.is c.settle-file.ensures.done in
    let safe = c.join-file.ensures.safe in
    let listed = subst (λ (s : SafeView _). IsPrefix f.syncs s.vault.syncs) (sym safe) c.join-file.ensures.listed in
    let clean : IsClean S w.seen w.syncs f.what = ok_on c.settle-file.result.1 o c.in-Ok.is c.settle-file.ensures.clean listed in
    let seen = settled_seen v w f o done ∙ ap (λ (s : SafeView _). s.vault.seen) safe ∙ c.requires.whole in
    let what = ap (λ (f : FileDeskView). f.what) c.join-file.ensures.file in
    subst (λ (f : FileDeskView). IsClean S c.args.shelf.now.history w.syncs f.what) c.join-file.ensures.file (subst (λ (h : List Entry). IsClean S h w.syncs f.what) seen clean)

pub returns-in-Ok-clause-safe : goal.returns-in-Ok-clause-safe
returns-in-Ok-clause-safe g c =
    let new = c.settle-file.new.self in
    let e = c.settle-file.ensures in
    let left : Leaves g.D.Disk.view c.join-file.new.self new c.settle-file.result.1 = record { fault = e.fault; lost = λ l has. ((e.lost l has).0, (e.lost l has).1); failed = e.failed; goes_on = e.goes_on } in
    leaves_ok g.D.Disk.view c.args.safe.now new c.settle-file.result.1 (subst (λ (s : SafeView _). Leaves g.D.Disk.view s new c.settle-file.result.1) c.join-file.ensures.safe left) c.in-Ok._receipt c.in-Ok.is tt

pub returns-in-Err-clause-grows : goal.returns-in-Err-clause-grows
returns-in-Err-clause-grows g c =
    let v = c.join-file.new.self.vault in
    let w = c.settle-file.new.self.vault in
    let undone = err_on c.settle-file.result.1 c.in-Err.fault c.in-Err.is c.settle-file.ensures.undone in
    subst (λ (s : SafeView _). IsPrefix s.vault.syncs w.syncs) c.join-file.ensures.safe (subst (λ (ss : List VaultSync). IsPrefix v.syncs ss) (sym (ap (λ (v : Vaulted _). v.syncs) undone)) (prefix_self v.syncs))

pub returns-in-Err-clause-safe : goal.returns-in-Err-clause-safe
returns-in-Err-clause-safe g c =
    let new = c.settle-file.new.self in
    let e = c.settle-file.ensures in
    let left : Leaves g.D.Disk.view c.join-file.new.self new c.settle-file.result.1 = record { fault = e.fault; lost = λ l has. ((e.lost l has).0, (e.lost l has).1); failed = e.failed; goes_on = e.goes_on } in
    leaves_err g.D.Disk.view c.args.safe.now new c.settle-file.result.1 (subst (λ (s : SafeView _). Leaves g.D.Disk.view s new c.settle-file.result.1) c.join-file.ensures.safe left) c.in-Err.fault c.in-Err.is

pub returns-in-Ok-clause-vault : goal.returns-in-Ok-clause-vault
returns-in-Ok-clause-vault g c =
    let f = c.join-file.result in
    let v = c.join-file.new.self.vault in
    let w = c.settle-file.new.self.vault in
    let o = c.in-Ok._receipt in
    let done = IfOk-at_ok (λ (o : Option Receipt). w ≡ settled_to v w f.what f.number o) c.in-Ok.is c.settle-file.ensures.done in
    subst (λ (s : SafeView _). w ≡ record s.vault { disk = w.disk; pool = w.pool; unsynced = w.unsynced; syncs = w.syncs }) c.join-file.ensures.safe (settled_same v w f o done)

pub returns-in-Err-clause-vault : goal.returns-in-Err-clause-vault
returns-in-Err-clause-vault g c =
    let v = c.join-file.new.self.vault in
    let w = c.settle-file.new.self.vault in
    let undone = err_on c.settle-file.result.1 c.in-Err.fault c.in-Err.is c.settle-file.ensures.undone in
    subst (λ (s : SafeView _). w ≡ record s.vault { disk = w.disk; pool = w.pool; unsynced = w.unsynced; syncs = w.syncs }) c.join-file.ensures.safe (unsaved_same v w undone)
