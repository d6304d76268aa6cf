use Rattle.std.proofs.Common.{◌≡◌, List, sym, subst}
use Rattle.std.specs.Prelude.{IfOk, OnErr}
use Rattle.pass_entry.specs.declared.entry.Entry.{Entry}
use Rattle.pass_vault.specs.declared.vault.Receipt.{Receipt}
use Rattle.pass_safe.specs.Commits.{HasNotFlushed, flushed_to}
use Rattle.pass_safe.specs.Safes.{Leaves, SafeView}
use Rattle.pass_safe.specs.Syncings.{IsCopy}
use Rattle.pass_safe.proofs.finishing.flush_all.Goals as goal

pub flush_copied-requires : goal.flush_copied-requires
flush_copied-requires g c =
    record { copied = (c.args.shelf.now.history, subst (λ (s : SafeView _). IsCopy g.J.Whose.book s.vault c.in-Ok.copied c.args.shelf.now.history) (sym c.copy_all.ensures.safe) c.in-Ok.ensures.copied) }

pub returns-in-Ok-clause-done : goal.returns-in-Ok-clause-done
returns-in-Ok-clause-done g c =
    let r = c.flush_copied.result in
    let w = c.flush_copied.new.safe.vault in
    subst (λ (s : SafeView _). IfOk r (λ (r : Receipt). w ≡ flushed_to s.vault w c.args.shelf.now.history r.calls)) c.copy_all.ensures.safe
    (subst (λ (h : List Entry). IfOk r (λ (r : Receipt). w ≡ flushed_to c.copy_all.new.safe.vault w h r.calls)) c.in-Ok.ensures.copied.whole c.flush_copied.ensures.done)

pub returns-in-Ok-clause-undone : goal.returns-in-Ok-clause-undone
returns-in-Ok-clause-undone g c =
    let r = c.flush_copied.result in
    let w = c.flush_copied.new.safe.vault in
    subst (λ (s : SafeView _). OnErr r (HasNotFlushed c.args.shelf.now.history s.vault w)) c.copy_all.ensures.safe
    (subst (λ (h : List Entry). OnErr r (HasNotFlushed h c.copy_all.new.safe.vault w)) c.in-Ok.ensures.copied.whole c.flush_copied.ensures.undone)

pub returns-in-Ok-clause-safe : goal.returns-in-Ok-clause-safe
returns-in-Ok-clause-safe g c = subst (λ (s : SafeView _). Leaves g.D.Disk.view s c.flush_copied.new.safe c.flush_copied.result) c.copy_all.ensures.safe c.flush_copied.ensures.safe
