use Rattle.std.proofs.Common.{◌≡◌, ◌<◌, ◌∙◌, ℕ, List, [], false, ap, length, subst, sym}
use Rattle.std.specs.List.{All}
use Rattle.std.specs.Prelude.{IfErr, OnOk}
use Rattle.pass_entry.specs.Limits.{block_count}
use Rattle.pass_entry.specs.declared.entry.Entry.{Entry}
use Rattle.pass_plain.specs.Legal.{IsLegal}
use Rattle.pass_book.specs.Tokens.{BookState}
use Rattle.pass_clean.specs.Cleaned.{is_dirty}
use Rattle.pass_vault.specs.Vaulted.{real_syncs}
use Rattle.pass_vault.specs.declared.vault.Receipt.{Receipt}
use Rattle.pass_safe.specs.Settled.{EndsWith}
use Rattle.pass_store.proofs.Causes.{healthy_as, settled_as, unsettled_as}
use Rattle.pass_store.specs.Closings.{IsSettled, IsTold, IsUnsettled, story_at}
use Rattle.pass_safe.specs.Grounds.{HasGoneOn}
use Rattle.pass_store.proofs.store.Store.finish.Goals as goal

pub returns-clause-legal : goal.returns-clause-legal
returns-clause-legal g c = subst (λ (h : List Entry). IsLegal g.J.Whose.book.session h) (sym c.close.ensures.history) c.settle_all-settled.ensures.legal

pub returns-clause-trails : goal.returns-clause-trails
returns-clause-trails g c =
    subst (λ (h : List Entry). All (IsTold h) c.args.trails.items)
    (sym (c.close.ensures.history ∙ c.settle_all-settled.ensures.history ∙ ap (λ (s : BookState). s.history) c.tell_all.ensures.shelf)) c.tell_all.ensures.told

pub returns-clause-gone_on : goal.returns-clause-gone_on
returns-clause-gone_on g c = subst (λ d. HasGoneOn g.J.Opening.tells g.J.Opening.ground.opened (g.D.Disk.view d)) (sym c.close.ensures.disk) c.settle_all-settled.ensures.gone_on

pub returns-clause-settled : goal.returns-clause-settled
returns-clause-settled g c =
    let rest = c.settle_all-settled in
    let closed = c.close.result in
    let history = rest.result.history.items in
    let vault = rest.result.vault in
    settled_as
    (λ (r : Receipt). EndsWith r.calls r.entries (real_syncs vault.syncs) × (r.entries ≡ length history))
    (IsSettled (story_at g.J.Whose.book g.J.Opening.ground closed.history.items) (g.D.Disk.view closed.disk) closed.syncs.items)
    ((file block : ℕ) → block < block_count → is_dirty g.J.Whose.book.session history vault.syncs file block ≡ false)
    ((vault.pool.entries ≡ []) × (vault.unsynced ≡ false))
    rest.result.settled c.answered.result c.answered.ensures
    (λ r ends written clean. c.close.ensures.settled r ends.0 ends.1 written clean)
    rest.ensures.done rest.ensures.clean rest.ensures.written

pub returns-clause-healthy : goal.returns-clause-healthy
returns-clause-healthy g c =
    let view = g.D.Disk.view in
    let rest = c.settle_all-settled in
    subst (λ d. OnOk c.answered.result ((view d).faults ≡ g.J.Opening.ground.opened)) (sym c.close.ensures.disk)
    (healthy_as ((view rest.result.vault.disk).faults ≡ g.J.Opening.ground.opened) rest.result.settled c.answered.result c.answered.ensures rest.ensures.healthy)

pub returns-clause-refused : goal.returns-clause-refused
returns-clause-refused g c =
    let view = g.D.Disk.view in
    let rest = c.settle_all-settled in
    subst (λ d. IfErr c.answered.result (IsUnsettled g.J.Opening.ground.opened (view d))) (sym c.close.ensures.disk)
    (unsettled_as g.J.Opening.ground.opened (view rest.result.vault.disk) rest.result.settled c.answered.result c.answered.ensures rest.ensures.failed)
