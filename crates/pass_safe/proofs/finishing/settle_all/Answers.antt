use Rattle.std.proofs.Common.{ap, length, subst, sym}
use Rattle.std.specs.Prelude.{Err}
use Rattle.pass_book.specs.Tokens.{BookState}
use Rattle.pass_safe.specs.Safes.{Leaves, SafeView}
use Rattle.pass_safe.specs.Settled.{AreSettled}
use Rattle.pass_vault.specs.declared.vault.Receipt.{Receipt}
use Rattle.pass_safe.proofs.Leaving.{leaves_lost}
use Rattle.pass_safe.proofs.Settles.{all_durable, some_synced_since}
use Rattle.pass_safe.proofs.finishing.settle_all.Goals as goal

pub returns-in-Err-clause-safe : goal.returns-in-Err-clause-safe
returns-in-Err-clause-safe g c =
    let old = c.args.safe.now in
    subst (λ (s : SafeView _). Leaves {T = Receipt} g.D.Disk.view old s (Err c.in-Err.fault)) (sym c.meet_all.ensures.safe) (leaves_lost g.D.Disk.view old c.in-Err.fault c.in-Err.ensures.lost)

pub receipt-requires : goal.receipt-requires
receipt-requires g c =
    some_synced_since c.args.shelf.now.history c.args.files.items c.args.safe.now.vault c.flush_all.new.safe.vault c.settle_each.new.safe.vault c.in_default-flush_all.field-0.calls c.in_default-flush_all.ensures.done
    c.settle_each.ensures.grows

pub returns-clause-done : goal.returns-clause-done
returns-clause-done g c =
    let history = c.args.shelf.now.history in
    let files = c.args.files.items in
    let m = c.flush_all.new.safe.vault in
    let w = c.settle_each.new.safe.vault in
    let here = ap (λ (s : BookState). length s.history) c.flush_all.ensures.shelf in
    let are = subst (λ n. AreSettled n files m.syncs w.syncs) here c.in_default-settle_each.ensures.done in
    all_durable history files c.args.safe.now.vault m w c.in_default-flush_all.field-0.calls c.in_default-flush_all.ensures.done c.settle_each.ensures.vault c.settle_each.ensures.grows are
    c.durable-durable.ensures.counted c.receipt.result c.receipt.ensures
