use Rattle.std.proofs.Common.{rules, ◌≡◌, ℕ, Bool, false, ◌<◌, ◌≤◌, ◌^◌, ◌∙◌, ◌++◌, ◌∷◌, [], List, length, take, drop, ⊎_elim, refl, ap, sym, subst, arith}
use Rattle.std.specs.Prelude.{Ok, Err, true, IsTrue}
use Rattle.std.proofs.lemmas.Bool.{cases_lt}
use Rattle.pass_leaf.specs.declared.fault.OldFault.TheVariants as faults
use Rattle.pass_leaf.specs.Leaves.{Leaf}
use Rattle.pass_leaf.specs.Contents.{last_version}
use Rattle.pass_leaf.specs.Keeping.{FileVersion, is_above}
use Rattle.pass_leaf.specs.Gatherings.{frames_size, batch_size, Gathering, with_batch, with_version}
use Rattle.pass_leaf.specs.Archives.{Archive}
use Rattle.pass_leaf.specs.Open.{archive_of, gathering_of, all_leaves, whole_end, with_next, next_end, IsUnkept, HasMoved}
use Rattle.pass_leaf.proofs.Answering.{above_is, above_not, version_below, version_above, leaf_small, leaf_full, next_of, next_end-more, moved_still, moved_not, moved_over, failed_over, gathered_size}
use Rattle.pass_leaf.proofs.Shelves.{parts, room_of}
use Rattle.pass_leaf.proofs.shelf.Shelf.keep.Goals as goal

-- a version that is new to the leaves
new_in : (leaves written gathered : List Leaf) (v : FileVersion) → written ++ gathered ≡ leaves → last_version leaves v.node.pnode < v.node.version → IsTrue (is_above (written ++ gathered) v.node)
new_in leaves written gathered v whole above = subst (λ (l : List Leaf). IsTrue (is_above l v.node)) (sym whole) (above_is (last_version leaves v.node.pnode) v.node.version above)

low_in : (leaves written gathered : List Leaf) (v : FileVersion) → written ++ gathered ≡ leaves → v.node.version ≤ last_version leaves v.node.pnode → v.node.version ≤ last_version (written ++ gathered) v.node.pnode
low_in leaves written gathered v whole below = subst (λ (l : List Leaf). v.node.version ≤ last_version l v.node.pnode) (sym whole) below

pub gather-requires-clause-above : goal.gather-requires-clause-above
gather-requires-clause-above g c =
    let stock = c.args.self.now.stock in
    let v : FileVersion = record { node = c.args.node; bytes = c.args.content.now } in
    let new : last_version stock.leaves v.node.pnode < v.node.version = search rules in
    new_in stock.leaves (take stock.written stock.leaves) (drop stock.written stock.leaves) v (parts stock.written stock.leaves) new

pub returns-in-Err-clause-moved : goal.returns-in-Err-clause-moved
returns-in-Err-clause-moved g c =
    let a = archive_of c.args.self.now in
    let v : FileVersion = record { node = c.args.node; bytes = c.args.content.now } in
    moved_not g.A.Disk.view a (with_version (gathering_of a) v) c.in-Err.fault (λ is. let z : faults.Broken a.opened (g.A.Disk.view a.disk).faults ≡ faults.DiskFault = sym c.in-Err.ensures.err.0 ∙ is in cc)

pub returns-then-not-is_new-clause-moved : goal.returns-then-not-is_new-clause-moved
returns-then-not-is_new-clause-moved g c =
    let stock = c.args.self.now.stock in
    let a = archive_of c.args.self.now in
    let v : FileVersion = record { node = c.args.node; bytes = c.args.content.now } in
    let low : v.node.version ≤ last_version stock.leaves v.node.pnode =
    ⊎_elim (λ lt. absurd (cc (c.is_new.ensures.1 lt, c.if-not-is_new.true))) (λ le. le) (cases_lt (last_version stock.leaves v.node.pnode) v.node.version) in
    let below = low_in stock.leaves a.leaves a.gathered v (parts stock.written stock.leaves) low in
    subst (λ (x : Gathering). HasMoved g.A.Disk.view a a x (Ok false)) (sym (version_below (gathering_of a) v below)) (moved_still g.A.Disk.view a a.gathered (gathering_of a) false refl refl refl)

pub returns-then-not-is_new-clause-answer : goal.returns-then-not-is_new-clause-answer
returns-then-not-is_new-clause-answer g c =
    let stock = c.args.self.now.stock in
    let a = archive_of c.args.self.now in
    let v : FileVersion = record { node = c.args.node; bytes = c.args.content.now } in
    let low : v.node.version ≤ last_version stock.leaves v.node.pnode =
    ⊎_elim (λ lt. absurd (cc (c.is_new.ensures.1 lt, c.if-not-is_new.true))) (λ le. le) (cases_lt (last_version stock.leaves v.node.pnode) v.node.version) in
    sym (above_not (last_version (all_leaves a) v.node.pnode) v.node.version (low_in stock.leaves a.leaves a.gathered v (parts stock.written stock.leaves) low))

pub returns-in-Err-gather-clause-moved : goal.returns-in-Err-gather-clause-moved
returns-in-Err-gather-clause-moved g c =
    let a = archive_of c.args.self.now in
    let v : FileVersion = record { node = c.args.node; bytes = c.args.content.now } in
    let goal = with_version (gathering_of a) v in
    let e = c.in-Err-gather.ensures in
    subst (λ (x : Archive g.row.A.Denot). HasMoved {T = Bool} g.A.Disk.view a x goal (Err c.in-Err-gather.fault)) (sym e.same) (moved_not g.A.Disk.view a goal c.in-Err-gather.fault e.other)

-- with the leaf gathered

size_of : {A : Type 0} (a mid : Archive A) (v : FileVersion) (n : ℕ) → mid ≡ with_next a v → n ≡ frames_size mid.gathered → n ≡ frames_size (a.gathered ++ next_of (all_leaves a) v ∷ [])
size_of a mid v n same size = size ∙ ap (λ m. frames_size m.gathered) same

small_goal : {A : Type 0} (a : Archive A) (v : FileVersion) → IsTrue (is_above (all_leaves a) v.node) → frames_size (a.gathered ++ next_of (all_leaves a) v ∷ []) < batch_size
    → with_version (gathering_of a) v ≡ gathering_of (with_next a v)
small_goal a v above small = version_above (gathering_of a) v above ∙ leaf_small (gathering_of a) (next_of (all_leaves a) v) small

full_goal : {A : Type 0} (a : Archive A) (v : FileVersion) → IsTrue (is_above (all_leaves a) v.node) → batch_size ≤ frames_size (a.gathered ++ next_of (all_leaves a) v ∷ [])
    → with_version (gathering_of a) v ≡ with_batch (gathering_of (with_next a v))
full_goal a v above full = version_above (gathering_of a) v above ∙ leaf_full (gathering_of a) (next_of (all_leaves a) v) full

pub returns-then-gathered-lt-BATCH-clause-moved : goal.returns-then-gathered-lt-BATCH-clause-moved
returns-then-gathered-lt-BATCH-clause-moved g c =
    let a = archive_of c.args.self.now in
    let v : FileVersion = record { node = c.args.node; bytes = c.args.content.now } in
    let e = c.in_default-gather.ensures in
    let mid = archive_of c.gather.new.self in
    let stock = c.gather.new.self.stock in
    let fresh : last_version c.args.self.now.stock.leaves v.node.pnode < v.node.version = search rules in
    let above = new_in c.args.self.now.stock.leaves a.leaves a.gathered v (parts c.args.self.now.stock.written c.args.self.now.stock.leaves) fresh in
    let size = gathered_size stock.frames.items mid.gathered e.open.stocked.gathered_are in
    let small : frames_size (a.gathered ++ next_of (all_leaves a) v ∷ []) < batch_size = omega (arith, c.if-gathered-lt-BATCH.true, c.len-gathered.ensures, size_of a mid v (length stock.frames.items) e.gathered size) in
    subst (λ (x : Archive g.row.A.Denot). HasMoved g.A.Disk.view a x (with_version (gathering_of a) v) (Ok true)) (sym e.gathered)
    (subst (λ (x : Gathering). HasMoved g.A.Disk.view a (with_next a v) x (Ok true)) (sym (small_goal a v above small)) (moved_still g.A.Disk.view a (with_next a v).gathered (gathering_of (with_next a v)) true refl refl refl))

pub returns-in-Ok-clause-moved : goal.returns-in-Ok-clause-moved
returns-in-Ok-clause-moved g c =
    let a = archive_of c.args.self.now in
    let v : FileVersion = record { node = c.args.node; bytes = c.args.content.now } in
    let e = c.in_default-gather.ensures in
    let mid = archive_of c.gather.new.self in
    let new = archive_of c.write.new.self in
    let stock = c.gather.new.self.stock in
    let fresh : last_version c.args.self.now.stock.leaves v.node.pnode < v.node.version = search rules in
    let above = new_in c.args.self.now.stock.leaves a.leaves a.gathered v (parts c.args.self.now.stock.written c.args.self.now.stock.leaves) fresh in
    let size = gathered_size stock.frames.items mid.gathered e.open.stocked.gathered_are in
    let full : batch_size ≤ frames_size (a.gathered ++ next_of (all_leaves a) v ∷ []) = omega (arith, c.if-gathered-lt-BATCH.false, c.len-gathered.ensures, size_of a mid v (length stock.frames.items) e.gathered size) in
    let moved : HasMoved g.A.Disk.view (with_next a v) new (with_batch (gathering_of (with_next a v))) (Ok c.in-Ok.field-0) =
    subst (λ (x : Archive g.row.A.Denot). HasMoved g.A.Disk.view x new (with_batch (gathering_of x)) (Ok c.in-Ok.field-0)) e.gathered c.in-Ok.ensures.moved in
    subst (λ (x : Gathering). HasMoved g.A.Disk.view a new x (Ok true)) (sym (full_goal a v above full)) (moved_over g.A.Disk.view a new v (with_batch (gathering_of (with_next a v))) c.in-Ok.field-0 true moved)

pub returns-in-Err-write-clause-moved : goal.returns-in-Err-write-clause-moved
returns-in-Err-write-clause-moved g c =
    let a = archive_of c.args.self.now in
    let v : FileVersion = record { node = c.args.node; bytes = c.args.content.now } in
    let e = c.in_default-gather.ensures in
    let mid = archive_of c.gather.new.self in
    let new = archive_of c.write.new.self in
    let stock = c.gather.new.self.stock in
    let fault = c.in-Err-write.fault in
    let f = c.in-Err-write.ensures in
    let fresh : last_version c.args.self.now.stock.leaves v.node.pnode < v.node.version = search rules in
    let above = new_in c.args.self.now.stock.leaves a.leaves a.gathered v (parts c.args.self.now.stock.written c.args.self.now.stock.leaves) fresh in
    let size = gathered_size stock.frames.items mid.gathered e.open.stocked.gathered_are in
    let full : batch_size ≤ frames_size (a.gathered ++ next_of (all_leaves a) v ∷ []) = omega (arith, c.if-gathered-lt-BATCH.false, c.len-gathered.ensures, size_of a mid v (length stock.frames.items) e.gathered size) in
    subst (λ (x : Gathering). HasMoved {T = Bool} g.A.Disk.view a new x (Err fault)) (sym (full_goal a v above full)) (failed_over g.A.Disk.view a mid new v fault e.gathered f.moved f.fault.0 f.fault.1)

-- where the archive ends

ends_in : {A : Type 0} (a mid : Archive A) (v : FileVersion) (end : ℕ) → mid ≡ with_next a v → end ≡ whole_end mid → end < 2 ^ 39 → (end ≡ next_end (all_leaves a) (whole_end a) v) × (end < 2 ^ 39)
ends_in a mid v end same is low = (is ∙ ap whole_end same ∙ next_end-more a v, low)

pub returns-then-gathered-lt-BATCH-clause-ends : goal.returns-then-gathered-lt-BATCH-clause-ends
returns-then-gathered-lt-BATCH-clause-ends g c =
    let a = archive_of c.args.self.now in
    let v : FileVersion = record { node = c.args.node; bytes = c.args.content.now } in
    let e = c.in_default-gather.ensures in
    let shelf = c.gather.new.self in
    let mid = archive_of shelf in
    let size = gathered_size shelf.stock.frames.items mid.gathered e.open.stocked.gathered_are in
    let room = room_of (g.A.Disk.view shelf.disk) shelf.stock shelf.tail e.open e.some in
    ends_in a mid v (whole_end mid) e.gathered refl (omega (arith, room, size))

pub returns-in-Ok-clause-ends : goal.returns-in-Ok-clause-ends
returns-in-Ok-clause-ends g c =
    let a = archive_of c.args.self.now in
    let v : FileVersion = record { node = c.args.node; bytes = c.args.content.now } in
    let e = c.in_default-gather.ensures in
    let shelf = c.gather.new.self in
    let mid = archive_of shelf in
    let whole = c.in-Ok.ensures.whole in
    let size = gathered_size shelf.stock.frames.items mid.gathered e.open.stocked.gathered_are in
    let room = room_of (g.A.Disk.view shelf.disk) shelf.stock shelf.tail e.open e.some in
    ends_in a mid v (whole_end (archive_of c.write.new.self)) e.gathered whole (omega (arith, whole, room, size))

pub returns-in-Err-write-clause-unbroken : goal.returns-in-Err-write-clause-unbroken
returns-in-Err-write-clause-unbroken g c = λ healthy.
    let a = archive_of c.args.self.now in
    let v : FileVersion = record { node = c.args.node; bytes = c.args.content.now } in
    let e = c.in_default-gather.ensures in
    let shelf = c.gather.new.self in
    let mid = archive_of shelf in
    let fresh : last_version c.args.self.now.stock.leaves v.node.pnode < v.node.version = search rules in
    let above = new_in c.args.self.now.stock.leaves a.leaves a.gathered v (parts c.args.self.now.stock.written c.args.self.now.stock.leaves) fresh in
    let size = gathered_size shelf.stock.frames.items mid.gathered e.open.stocked.gathered_are in
    let room = room_of (g.A.Disk.view shelf.disk) shelf.stock shelf.tail e.open e.some in
    let low : next_end (all_leaves a) (whole_end a) v < 2 ^ 39 = omega (arith, room, size, ap whole_end e.gathered, next_end-more a v) in
    (above, subst (IsUnkept (all_leaves a) (whole_end a) v) (sym c.in-Err-write.ensures.fault.0) low)
