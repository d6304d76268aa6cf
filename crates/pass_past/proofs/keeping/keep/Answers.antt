use Rattle.std.proofs.Common.{◌≡◌, ◌∙◌, ◌++◌, [], List, length, sym, ap, subst, arith}
use Rattle.std.specs.Prelude.{Some}
use Rattle.std.proofs.lemmas.List.{append-nil}
use Rattle.pass_plain.specs.Legal.{session_of}
use Rattle.pass_leaf.specs.Leaves.{Leaf}
use Rattle.pass_leaf.specs.Contents.{content_of}
use Rattle.pass_leaf.specs.Archives.{Archive}
use Rattle.pass_leaf.specs.Open.{all_leaves}
use Rattle.pass_past.specs.Pasts.{versions_of}
use Rattle.pass_past.proofs.Batches.{kept_longer}
use Rattle.pass_past.proofs.Goings.{kept_none}
use Rattle.pass_past.proofs.keeping.keep.Goals as goal

pub keep_all-requires-clause-begun : goal.keep_all-requires-clause-begun
keep_all-requires-clause-begun g c = kept_none g.A.Disk.view c.args.old.now c.requires.begun c.in_default.ensures.ok c.check.ensures.leaves c.check.ensures.since

pub returns-in-Err-keep_all-clause-stopped : goal.returns-in-Err-keep_all-clause-stopped
returns-in-Err-keep_all-clause-stopped g c = λ healthy. c.halt.ensures c.args.old.now (versions_of (session_of c.args.start.now 0) c.args.history.now) c.in-Err-keep_all.ensures.stopped

pub returns-in-Err-keep_all-clause-stays : goal.returns-in-Err-keep_all-clause-stays
returns-in-Err-keep_all-clause-stays g c = λ node bytes is.
    let s = c.halt.ensures c.args.old.now (versions_of (session_of c.args.start.now 0) c.args.history.now) c.in-Err-keep_all.ensures.stopped in
    subst (λ (l : List Leaf). content_of l node ≡ Some bytes) (sym s.leaves_are) (c.kept.ensures.stays c.args.old.now.leaves s.done node bytes is)

pub returns-in-Err-finish-clause-stopped : goal.returns-in-Err-finish-clause-stopped
returns-in-Err-finish-clause-stopped g c = λ healthy. c.in-Err-finish.ensures.stopped c.args.old.now (versions_of (session_of c.args.start.now 0) c.args.history.now) c.in_default-keep_all.ensures.kept

pub returns-in-Err-finish-clause-stays : goal.returns-in-Err-finish-clause-stays
returns-in-Err-finish-clause-stays g c = λ node bytes is.
    let s = c.in-Err-finish.ensures.stopped c.args.old.now (versions_of (session_of c.args.start.now 0) c.args.history.now) c.in_default-keep_all.ensures.kept in
    subst (λ (l : List Leaf). content_of l node ≡ Some bytes) (sym s.leaves_are) (c.kept.ensures.stays c.args.old.now.leaves s.done node bytes is)

pub returns-clause-kept : goal.returns-clause-kept
returns-clause-kept g c = c.in_default-finish.ensures.kept c.args.old.now (versions_of (session_of c.args.start.now 0) c.args.history.now) c.in_default-keep_all.ensures.kept

pub returns-clause-stays : goal.returns-clause-stays
returns-clause-stays g c = λ node bytes is.
    let versions = versions_of (session_of c.args.start.now 0) c.args.history.now in
    let h = c.in_default-finish.ensures.kept c.args.old.now versions c.in_default-keep_all.ensures.kept in
    subst (λ (l : List Leaf). content_of l node ≡ Some bytes) (sym h.leaves_are) (c.kept.ensures.stays c.args.old.now.leaves versions node bytes is)

pub returns-clause-contents : goal.returns-clause-contents
returns-clause-contents g c = λ v here above.
    let versions = versions_of (session_of c.args.start.now 0) c.args.history.now in
    let h = c.in_default-finish.ensures.kept c.args.old.now versions c.in_default-keep_all.ensures.kept in
    let (objects, sound, legal) = c.requires.legal in
    subst (λ (l : List Leaf). content_of l v.node ≡ Some v.bytes) (sym h.leaves_are)
    (c.kept.ensures.kept c.args.old.now.leaves versions c.check.ensures.are (c.agreeing.ensures (session_of c.args.start.now objects) sound c.args.history.now legal) v here above)

-- leaves of an archive with nothing gathered
counted : {A : Type 0} (a : Archive A) → a.gathered ≡ [] → length (all_leaves a) ≡ length a.leaves
counted a none = ap (λ (l : List Leaf). length (a.leaves ++ l)) none ∙ ap length (append-nil a.leaves)

pub overflow_sub-result : goal.overflow_sub-result
overflow_sub-result g c =
    let versions = versions_of (session_of c.args.start.now 0) c.args.history.now in
    let h = c.in_default-finish.ensures.kept c.args.old.now versions c.in_default-keep_all.ensures.kept in
    omega (arith, c.count-before.ensures, c.count.ensures, counted c.args.old.now c.requires.begun, counted c.finish.new.old h.none_gathered, ap length h.leaves_are, kept_longer c.args.old.now.leaves versions)

pub returns-clause-count : goal.returns-clause-count
returns-clause-count g c =
    let versions = versions_of (session_of c.args.start.now 0) c.args.history.now in
    let h = c.in_default-finish.ensures.kept c.args.old.now versions c.in_default-keep_all.ensures.kept in
    omega (arith, c.count-before.ensures, c.count.ensures, counted c.args.old.now c.requires.begun, counted c.finish.new.old h.none_gathered, ap length h.leaves_are, kept_longer c.args.old.now.leaves versions)

pub returns-clause-others : goal.returns-clause-others
returns-clause-others g c = λ node none.
    let versions = versions_of (session_of c.args.start.now 0) c.args.history.now in
    let h = c.in_default-finish.ensures.kept c.args.old.now versions c.in_default-keep_all.ensures.kept in
    ap (λ (l : List Leaf). content_of l node) h.leaves_are ∙ c.kept.ensures.others c.args.old.now.leaves versions node none
