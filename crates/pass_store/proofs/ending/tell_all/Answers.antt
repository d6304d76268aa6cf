use Rattle.std.proofs.Common.{◌≡◌, ◌∙◌, List, ap, refl, subst, sym}
use Rattle.std.proofs.lemmas.Iterator.Adapters.{YieldsList-from_vec}
use Rattle.std.proofs.lemmas.Iterator.Consumers.{YieldsList-end}
use Rattle.std.proofs.lemmas.List.Folds.{map_fixed}
use Rattle.std.specs.List.{All}
use Rattle.pass_entry.specs.declared.entry.Entry.{Entry}
use Rattle.pass_book.specs.Tokens.{BookState}
use Rattle.pass_proc.specs.Ends.{TrailView}
use Rattle.pass_store.specs.Closings.{IsTold}
use Rattle.pass_store.proofs.Closing.{told_more}
use Rattle.pass_store.proofs.ending.tell_all.Goals as goal

pub loop-trail-preserved : goal.loop-trail-preserved
loop-trail-preserved g c =
    let inv = c.loop-trail.invariant in
    record {
      shelf = c.tell.ensures.shelf ∙ (λ i. record (inv.shelf i) { syncs = c.tell.new.shelf.syncs });
      told = told_more c.args.shelf.now.history c.loop-trail.yielded c.in-Some.trail inv.told
          (subst (λ (h : List Entry). IsTold h c.in-Some.trail) (ap (λ (s : BookState). s.history) inv.shelf) c.tell.ensures.told);
    }

pub returns-clause-told : goal.returns-clause-told
returns-clause-told g c =
    let ended = YieldsList-end (YieldsList-from_vec c.args.trails.items (cc) (cc)) c.loop-trail.yielded c.loop-trail.trail-iterator c.loop-trail.yielded_by c.next.result c.next.new.self c.in-None.is c.next.ensures.steps in
    let whole : c.loop-trail.yielded ≡ c.args.trails.items = sym (map_fixed (λ (t : TrailView). t) c.loop-trail.yielded (λ k d low. refl)) ∙ ended.0 in
    subst (λ (ts : List TrailView). All (IsTold c.args.shelf.now.history) ts) whole c.loop-trail.invariant.told
