use Rattle.std.proofs.Common.{◌∙◌, ap, arith, sym, subst}
use Rattle.pass_book.specs.Syncs.{called}
use Rattle.pass_vault.specs.Vaulted.{real_syncs}
use Rattle.pass_vault.specs.declared.vault.Receipt.{Receipt}
use Rattle.pass_safe.specs.Syncings.{HasRisen}
use Rattle.pass_safe.proofs.Lent.{shared_saved, some_durable}
use Rattle.pass_safe.proofs.saving.share_entries.Goals as goal

pub receipt-receipt-requires : goal.receipt-receipt-requires
receipt-receipt-requires g c = let more = c.requires.durable in some_durable c.args.safe.now.vault.syncs c.durable-durable.ensures.counted (omega (arith, more))

pub returns-clause-saved : goal.returns-clause-saved
returns-clause-saved g c =
    let v = c.args.safe.now.vault in
    let e = c.durable-durable.ensures in
    let more = c.requires.durable in
    shared_saved g.J.Whose.book v c.receipt-receipt.result c.note-told.result e.sound (omega (arith, more)) e.within e.counted c.receipt-receipt.ensures c.note-told.ensures.note

pub returns-clause-above : goal.returns-clause-above
returns-clause-above g c =
    let more = c.requires.durable in
    let all = ap (λ (r : Receipt). r.entries) c.receipt-receipt.ensures ∙ c.durable-durable.ensures.counted in
    omega (arith, more, all)

pub returns-in-Err-clause-risen : goal.returns-in-Err-clause-risen
returns-in-Err-clause-risen g c = let by = c.in-Err.ensures.lost in subst HasRisen (sym by.fault) by.lost.rises

pub returns-clause-receipt : goal.returns-clause-receipt
returns-clause-receipt g c = c.receipt-receipt.ensures ∙ (λ i. record { calls = called (real_syncs c.args.safe.now.vault.syncs); entries = c.durable-durable.ensures.counted i })
