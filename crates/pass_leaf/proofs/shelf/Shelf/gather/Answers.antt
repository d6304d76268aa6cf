use Rattle.std.proofs.Common.{rules, ◌≡◌, ◌+◌, ◌<◌, ◌≤◌, ◌^◌, ◌∙◌, ◌++◌, ◌∷◌, [], ℕ, List, length, take, drop, ap, sym, subst, arith}
use Rattle.pass_leaf.specs.Leaves.{Leaf, leaf_bytes}
use Rattle.pass_leaf.specs.Contents.{AreLeaves}
use Rattle.pass_leaf.specs.Keeping.{FileVersion}
use Rattle.pass_leaf.specs.Reads.{IsBatch, IsGathered}
use Rattle.pass_leaf.proofs.Answering.{grown, next_are}
use Rattle.pass_leaf.proofs.Appending.{length-staged}
use Rattle.pass_leaf.proofs.Shelves.{open_same, open_more, above_in, next_in, full_in}
use Rattle.pass_leaf.proofs.shelf.Shelf.gather.Goals as goal

pub returns-in-Err-clause-open : goal.returns-in-Err-clause-open
returns-in-Err-clause-open g c =
    let self = c.args.self.now in
    let e = c.make.ensures in
    open_same (g.A.Disk.view self.disk) self.stock c.make.new.self self.tail c.requires.open e.contents e.leaves e.written e.frames

pub returns-in-Err-clause-same : goal.returns-in-Err-clause-same
returns-in-Err-clause-same g c =
    let self = c.args.self.now in
    let e = c.make.ensures in
    λ i. record { disk = self.disk; leaves = take (e.written i) (e.leaves i); end = self.tail.end; opened = self.tail.opened; gathered = drop (e.written i) (e.leaves i) }

pub returns-then-next_end-ge-FURTHEST-clause-open : goal.returns-then-next_end-ge-FURTHEST-clause-open
returns-then-next_end-ge-FURTHEST-clause-open g c =
    let self = c.args.self.now in
    let e = c.make.ensures in
    open_same (g.A.Disk.view self.disk) self.stock c.make.new.self self.tail c.requires.open e.contents e.leaves e.written e.frames

pub returns-then-next_end-ge-FURTHEST-clause-same : goal.returns-then-next_end-ge-FURTHEST-clause-same
returns-then-next_end-ge-FURTHEST-clause-same g c =
    let self = c.args.self.now in
    let e = c.make.ensures in
    λ i. record { disk = self.disk; leaves = take (e.written i) (e.leaves i); end = self.tail.end; opened = self.tail.opened; gathered = drop (e.written i) (e.leaves i) }

pub returns-then-next_end-ge-FURTHEST-clause-fault : goal.returns-then-next_end-ge-FURTHEST-clause-fault
returns-then-next_end-ge-FURTHEST-clause-fault g c =
    let self = c.args.self.now in
    let v : FileVersion = record { node = c.args.node; bytes = c.args.content.now } in
    let e = c.in-Ok.ensures in
    let leaf = c.in-Ok.made.leaf in
    let len : c.len.result ≡ length self.stock.frames.items = search rules in
    let more : c.len-2.result ≡ length c.in-Ok.made.frame.items = search rules in
    let at : self.tail.end + c.len.result ≡ self.tail.end + length self.stock.frames.items = omega (arith, len) in
    let size = ap length e.frame ∙ length-staged (leaf_bytes leaf) in
    let full : 2 ^ 39 ≤ self.tail.end + c.len.result + length c.in-Ok.made.frame.items = omega (arith, more, c.if-next_end-ge-FURTHEST.true) in
    full_in self.stock.written self.stock.leaves v leaf self.tail.end (self.tail.end + c.len.result) self.stock.frames.items e.leaf c.requires.open.stocked.gathered_are at (omega (arith, full, size))

pub returns-in-Err-add-clause-open : goal.returns-in-Err-add-clause-open
returns-in-Err-add-clause-open g c =
    let self = c.args.self.now in
    let e = c.make.ensures in
    let f = c.in-Err-add.ensures in
    open_same (g.A.Disk.view self.disk) self.stock c.add.new.self self.tail c.requires.open f.contents (f.same ∙ e.leaves) (f.written ∙ e.written) (f.frames ∙ e.frames)

pub returns-in-Err-add-clause-same : goal.returns-in-Err-add-clause-same
returns-in-Err-add-clause-same g c =
    let self = c.args.self.now in
    let e = c.make.ensures in
    let f = c.in-Err-add.ensures in
    let written = f.written ∙ e.written in
    let leaves = f.same ∙ e.leaves in
    λ i. record { disk = self.disk; leaves = take (written i) (leaves i); end = self.tail.end; opened = self.tail.opened; gathered = drop (written i) (leaves i) }

pub returns-in-Ok-add-clause-open : goal.returns-in-Ok-add-clause-open
returns-in-Ok-add-clause-open g c =
    let self = c.args.self.now in
    let v : FileVersion = record { node = c.args.node; bytes = c.args.content.now } in
    let e = c.in-Ok.ensures in
    let f = c.in-Ok-add.ensures in
    let leaf = c.in-Ok.made.leaf in
    let above = above_in self.stock.written self.stock.leaves v c.requires.above in
    let leaves : c.add.new.self.leaves ≡ self.stock.leaves ++ leaf ∷ [] = f.leaves ∙ ap (λ (l : List Leaf). l ++ leaf ∷ []) e.leaves in
    let are : AreLeaves (self.stock.leaves ++ leaf ∷ []) = next_are self.stock.leaves v leaf e.leaf c.requires.open.stocked.are e.formed above in
    let len : c.len.result ≡ length self.stock.frames.items = search rules in
    let more : c.len-2.result ≡ length c.in-Ok.made.frame.items = search rules in
    let batch : IsBatch c.add.new.self.frames.items (drop self.stock.written self.stock.leaves ++ leaf ∷ []) = f.batch (drop self.stock.written self.stock.leaves) (subst (λ (b : List ℕ). IsGathered b (drop self.stock.written self.stock.leaves)) (sym e.frames) c.requires.open.stocked.gathered_are) in
    let room : self.tail.end + length c.add.new.self.frames.items < 2 ^ 39 = omega (arith, len, more, f.size, ap length e.frames, c.if-next_end-ge-FURTHEST.false) in
    open_more (g.A.Disk.view self.disk) self.stock c.add.new.self self.tail c.requires.open f.contents leaf leaves (f.written ∙ e.written) are batch room

pub returns-in-Ok-add-clause-gathered : goal.returns-in-Ok-add-clause-gathered
returns-in-Ok-add-clause-gathered g c =
    let self = c.args.self.now in
    let v : FileVersion = record { node = c.args.node; bytes = c.args.content.now } in
    let e = c.in-Ok.ensures in
    let f = c.in-Ok-add.ensures in
    let leaf = c.in-Ok.made.leaf in
    let leaves : c.add.new.self.leaves ≡ self.stock.leaves ++ leaf ∷ [] = f.leaves ∙ ap (λ (l : List Leaf). l ++ leaf ∷ []) e.leaves in
    let more = grown self.stock.written c.add.new.self.written self.stock.leaves c.add.new.self.leaves leaf c.requires.open.stocked.few (f.written ∙ e.written) leaves in
    let last = more.1 ∙ ap (λ (l : Leaf). drop self.stock.written self.stock.leaves ++ l ∷ []) (next_in self.stock.written self.stock.leaves v leaf e.leaf) in
    λ i. record { disk = self.disk; leaves = more.0 i; end = self.tail.end; opened = self.tail.opened; gathered = last i }

pub returns-in-Ok-add-clause-some : goal.returns-in-Ok-add-clause-some
returns-in-Ok-add-clause-some g c =
    let size = ap length c.in-Ok.ensures.frame ∙ length-staged (leaf_bytes c.in-Ok.made.leaf) in
    omega (arith, c.in-Ok-add.ensures.size, size)
