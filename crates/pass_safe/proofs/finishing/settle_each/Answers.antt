use Rattle.std.proofs.Common.{List, [], ◌∷◌, ◌∙◌, ap, length, refl, subst}
use Rattle.std.specs.Prelude.{Ok}
use Rattle.pass_entry.specs.declared.entry.Entry.{Entry}
use Rattle.pass_book.specs.Tokens.{BookState}
use Rattle.pass_book.proofs.Prefixes.{prefix_trans}
use Rattle.pass_vault.specs.Vaulted.{Vaulted}
use Rattle.pass_safe.specs.Settled.{AreSettled, IsClean}
use Rattle.pass_safe.proofs.Leaving.{healthy_after, leaves_ok, leaves_then}
use Rattle.pass_safe.proofs.Settles.{more_clean, more_settled}
use Rattle.pass_safe.proofs.finishing.settle_each.Goals as goal

pub loop-file-preserved : goal.loop-file-preserved
loop-file-preserved g c =
    let S = g.J.Whose.book.session in
    let view = g.D.Disk.view in
    let old = c.args.safe.now in
    let s = c.loop-file.safe in
    let t = c.settle_one.new.safe in
    let inv = c.loop-file.invariant in
    let e = c.settle_one.ensures in
    let o = c.in_default.ensures in
    let r = c.settle_one.result in
    let file = c.in-Some.file in
    let h = c.args.shelf.now.history in
    let here = ap (λ (s : BookState). s.history) inv.shelf in
    record {
      shelf = e.shelf ∙ (λ i. record (inv.shelf i) { syncs = c.settle_one.new.shelf.syncs });
      vault = e.vault ∙ (λ i. record (inv.vault i) { disk = t.vault.disk; pool = t.vault.pool; unsynced = t.vault.unsynced; syncs = t.vault.syncs });
      grows = prefix_trans old.vault.syncs s.vault.syncs t.vault.syncs inv.grows e.grows;
      done = more_settled (length h) c.loop-file.yielded file old.vault.syncs s.vault.syncs t.vault.syncs inv.done (subst (λ (h : List Entry). AreSettled (length h) (file ∷ []) s.vault.syncs t.vault.syncs) here o.done);
      clean = more_clean S h s.vault.syncs t.vault.syncs c.loop-file.yielded file e.grows inv.clean (subst (λ (h : List Entry). IsClean S h t.vault.syncs file.what) here o.clean);
      safe = leaves_ok view old t r (leaves_then view old s t (Ok (tt {0})) r (tt {0}) refl inv.safe (ap (λ (v : Vaulted _). v.opened) inv.vault) e.safe) c.in_default.field-0 c.in_default.is (tt {0});
      healthy = healthy_after view s t r e.safe c.in_default.field-0 c.in_default.is;
    }
