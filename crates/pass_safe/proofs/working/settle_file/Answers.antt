use Rattle.std.proofs.Common.{◌≡◌, ◌⊎◌, ℕ, false, List, refl, sym, ◌∙◌, subst, arith, length}
use Rattle.std.specs.Vec.{vec_len}
use Rattle.std.proofs.lemmas.Result.{IfOk-at_ok}
use Rattle.pass_entry.specs.declared.entry.Entry.{Entry}
use Rattle.pass_entry.proofs.Lists.{same_numbers}
use Rattle.pass_clean.specs.Blocks.{IsRisingBy}
use Rattle.pass_vault.specs.Vaulted.{HasWaiting}
use Rattle.pass_safe.specs.Settled.{HasDirty, HasUnwritten, IsClean}
use Rattle.pass_safe.proofs.Clean.{none_dirty, none_unwritten, not_zero, some_dirty, some_unwritten, stays_clean}
use Rattle.pass_safe.specs.Commits.{saved_to}
use Rattle.pass_vault.specs.declared.vault.Receipt.{Receipt}
use Rattle.pass_safe.proofs.Lent.{ok_on}
use Rattle.pass_safe.proofs.Settles.{receipt_of}
use Rattle.pass_safe.proofs.working.settle_file.Goals as goal

pub save_blocks-file-requires-clause-rising : goal.save_blocks-file-requires-clause-rising
save_blocks-file-requires-clause-rising g c = subst (λ (l : List (ℕ × List ℕ)). IsRisingBy l) (sym c.deref.ensures.value) c.in-Ok.ensures.rising

pub returns-then-is_settled-clause-clean : goal.returns-then-is_settled-clause-clean
returns-then-is_settled-clause-clean g c =
    let S = g.J.Whose.book.session in
    let v = c.args.vault.now in
    let f = c.args.file in
    let empty = same_numbers (vec_len c.in-Ok.blocks) 0 (sym c.is_empty.ensures ∙ (c.is_settled.ensures.none c.if-is_settled.true).0) in
    let long = c.in-Ok.blocks.ok.0 in
    let none : length c.in-Ok.blocks.items ≡ 0 = omega (arith, empty, long) in
    λ listed.
    subst (λ (h : List Entry). IsClean S h v.syncs f.what) c.requires.seen
    (stays_clean S f.seen f.syncs v.syncs f.what listed (none_dirty S f.seen f.syncs f.what c.in-Ok.blocks.items c.in-Ok.ensures.dirty none))

pub returns-then-is_settled-clause-dirty : goal.returns-then-is_settled-clause-dirty
returns-then-is_settled-clause-dirty g c =
    let S = g.J.Whose.book.session in
    let v = c.args.vault.now in
    let f = c.args.file in
    let settled = c.is_settled.ensures.none c.if-is_settled.true in
    let empty = same_numbers (vec_len c.in-Ok.blocks) 0 (sym c.is_empty.ensures ∙ settled.0) in
    let long = c.in-Ok.blocks.ok.0 in
    let none : length c.in-Ok.blocks.items ≡ 0 = omega (arith, empty, long) in
    let clean = none_dirty S f.seen f.syncs f.what c.in-Ok.blocks.items c.in-Ok.ensures.dirty none in
    (λ some. absurd (cc), λ (left : HasUnwritten S f v). none_unwritten S f v clean (λ waits. settled.1 (subst (HasWaiting v) (sym c.number.ensures.number) waits)) left)

pub returns-in-Ok-result-clause-dirty : goal.returns-in-Ok-result-clause-dirty
returns-in-Ok-result-clause-dirty g c =
    let S = g.J.Whose.book.session in
    let v = c.args.vault.now in
    let f = c.args.file in
    let long = c.in-Ok.blocks.ok.0 in
    let some : c.is_empty.result ≡ false → HasDirty S f.seen f.syncs f.what = λ full.
    some_dirty S f.seen f.syncs f.what c.in-Ok.blocks.items c.in-Ok.ensures.dirty (λ none. not_zero (vec_len c.in-Ok.blocks) (sym c.is_empty.ensures ∙ full) (omega (arith, none, long))) in
    (λ is. some_unwritten S f v some (subst (λ n. (c.is_empty.result ≡ false) ⊎ HasWaiting v n) c.number.ensures.number (c.is_settled.ensures.some c.if-is_settled.false)), λ left. refl)

pub returns-in-Ok-result-clause-clean : goal.returns-in-Ok-result-clause-clean
returns-in-Ok-result-clause-clean g c = λ listed. ok_on c.save_blocks-file.result.1 c.in-Ok-result.receipt c.in-Ok-result.is c.save_blocks-file.ensures.clean

pub returns-in-Ok-result-clause-synced : goal.returns-in-Ok-result-clause-synced
returns-in-Ok-result-clause-synced g c =
    let v = c.args.vault.now in
    let w = c.save_blocks-file.new.vault in
    let f = c.args.file in
    let r = c.in-Ok-result.receipt in
    let calls = (g.D.Disk.view w.disk).calls in
    let e = c.save_blocks-file.ensures in
    receipt_of v w f r calls c.requires.seen
    (IfOk-at_ok (λ (r : Receipt). w ≡ saved_to v w f.what f.number r) c.in-Ok-result.is e.done)
    (IfOk-at_ok (λ (r : Receipt). r ≡ record { calls = calls; entries = length f.seen }) c.in-Ok-result.is e.receipt)
