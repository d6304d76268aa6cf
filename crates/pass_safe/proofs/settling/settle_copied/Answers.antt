use Rattle.std.proofs.Common.{◌≡◌, List, ap, subst}
use Rattle.std.specs.Prelude.{Option}
use Rattle.std.proofs.lemmas.Result.{IfOk-weaker}
use Rattle.pass_entry.specs.declared.entry.Entry.{Entry}
use Rattle.pass_vault.specs.Vaulted.{Vaulted}
use Rattle.pass_vault.specs.declared.vault.Receipt.{Receipt}
use Rattle.pass_safe.specs.Commits.{flushed_to}
use Rattle.pass_safe.specs.Safes.{Leaves}
use Rattle.pass_safe.specs.Settled.{HasSettled, settled_to}
use Rattle.pass_safe.proofs.Leaving.{leaves_then}
use Rattle.pass_safe.proofs.Settles.{has_settled}
use Rattle.pass_safe.proofs.settling.settle_copied.Goals as goal

pub returns-clause-done : goal.returns-clause-done
returns-clause-done g c =
    let f = c.args.file in
    let v = c.args.safe.now.vault in
    let m = c.flush_copied.new.safe.vault in
    let w = c.settle.new.self.vault in
    let calls = c.in_default.field-0.calls in
    let flush = subst (λ (h : List Entry). m ≡ flushed_to v m h calls) c.requires.copied.whole c.in_default.ensures.done in
    IfOk-weaker c.settle.result.1 (λ (o : Option Receipt). w ≡ settled_to m w f.what f.number o) (λ (o : Option Receipt). HasSettled f v w o) (has_settled v m w f calls flush) c.settle.ensures.done

pub returns-clause-safe : goal.returns-clause-safe
returns-clause-safe g c =
    let old = c.args.safe.now in
    let mid = c.flush_copied.new.safe in
    let new = c.settle.new.self in
    let e = c.settle.ensures in
    let left : Leaves g.D.Disk.view mid new c.settle.result.1 = record { fault = e.fault; lost = λ l has. ((e.lost l has).0, (e.lost l has).1); failed = e.failed; goes_on = e.goes_on } in
    leaves_then g.D.Disk.view old mid new c.flush_copied.result c.settle.result.1 c.in_default.field-0 c.in_default.is c.flush_copied.ensures.safe (ap (λ (v : Vaulted _). v.opened) c.in_default.ensures.done) left
