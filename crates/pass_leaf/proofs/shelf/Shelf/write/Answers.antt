use Rattle.std.proofs.Common.{rules, ◌≡◌, ◌⊎◌, ◌+◌, ◌<◌, ◌^◌, [], ℕ, List, length, take, drop, refl, ap, sym, subst, arith}
use Rattle.pass_leaf.specs.declared.tail.Tail.{Tail}
use Rattle.pass_leaf.specs.Contents.{AreLeaves}
use Rattle.pass_leaf.specs.Gatherings.{frames_size}
use Rattle.pass_leaf.specs.Reads.{IsBatch}
use Rattle.pass_leaf.specs.Open.{archive_of}
use Rattle.pass_leaf.proofs.Answering.{batch_some, moved_batch, batch_failed, gathered_size}
use Rattle.pass_leaf.proofs.Shelves.{parts, open_settled, settled_parts, room_of}
use Rattle.pass_leaf.proofs.shelf.Shelf.write.Goals as goal

pub append-requires-clause-room : goal.append-requires-clause-room
append-requires-clause-room g c =
    let self = c.args.self.now in
    let same : c.deref.result.now ≡ self.stock.frames.items = search rules in
    let room = room_of (g.A.Disk.view self.disk) self.stock self.tail c.requires.open c.requires.some in
    omega (arith, room, ap length same)

pub returns-in-Err-clause-open : goal.returns-in-Err-clause-open
returns-in-Err-clause-open g c =
    let self = c.args.self.now in
    let o = c.requires.open in
    let leaves = self.stock.leaves in
    let w = self.stock.written in
    let same : c.deref.result.now ≡ self.stock.frames.items = search rules in
    let batch : IsBatch c.deref.result.now (drop w leaves) = subst (λ (b : List ℕ). IsBatch b (drop w leaves)) (sym same) (batch_some self.stock.frames.items (drop w leaves) c.requires.some o.stocked.gathered_are) in
    let h = c.in-Err.ensures.appended (take w leaves) (drop w leaves) o.ends batch (subst AreLeaves (sym (parts w leaves)) o.stocked.are) in
    record {
      stocked = o.stocked;
      ends = h.stays;
      room = subst (λ (t : Tail). (self.stock.frames.items ≡ []) ⊎ (t.end + length self.stock.frames.items < 2 ^ 39)) (sym c.in-Err.ensures.err) o.room;
    }

pub returns-in-Err-clause-moved : goal.returns-in-Err-clause-moved
returns-in-Err-clause-moved g c =
    let self = c.args.self.now in
    let o = c.requires.open in
    let leaves = self.stock.leaves in
    let w = self.stock.written in
    let same : c.deref.result.now ≡ self.stock.frames.items = search rules in
    let batch : IsBatch c.deref.result.now (drop w leaves) = subst (λ (b : List ℕ). IsBatch b (drop w leaves)) (sym same) (batch_some self.stock.frames.items (drop w leaves) c.requires.some o.stocked.gathered_are) in
    let e = c.in-Err.ensures in
    let h = e.appended (take w leaves) (drop w leaves) o.ends batch (subst AreLeaves (sym (parts w leaves)) o.stocked.are) in
    batch_failed g.A.Disk.view (archive_of self) _ self.tail c.append.new.self c.in-Err.fault h refl e.fault (ap (λ (t : Tail). t.opened) e.err) refl refl (ap (λ (t : Tail). t.end) e.err) e.store e.work

pub returns-clause-open : goal.returns-clause-open
returns-clause-open g c =
    let self = c.args.self.now in
    let o = c.requires.open in
    let leaves = self.stock.leaves in
    let w = self.stock.written in
    let same : c.deref.result.now ≡ self.stock.frames.items = search rules in
    let batch : IsBatch c.deref.result.now (drop w leaves) = subst (λ (b : List ℕ). IsBatch b (drop w leaves)) (sym same) (batch_some self.stock.frames.items (drop w leaves) c.requires.some o.stocked.gathered_are) in
    let h = c.in_default.ensures.appended (take w leaves) (drop w leaves) o.ends batch (subst AreLeaves (sym (parts w leaves)) o.stocked.are) in
    let s = c.settle.ensures in
    open_settled (g.A.Disk.view c.append.new.disk) self.stock c.settle.new.self c.append.new.self o.stocked.are (search rules) s.leaves s.written s.frames h.ends

pub returns-clause-moved : goal.returns-clause-moved
returns-clause-moved g c =
    let self = c.args.self.now in
    let o = c.requires.open in
    let leaves = self.stock.leaves in
    let w = self.stock.written in
    let same : c.deref.result.now ≡ self.stock.frames.items = search rules in
    let batch : IsBatch c.deref.result.now (drop w leaves) = subst (λ (b : List ℕ). IsBatch b (drop w leaves)) (sym same) (batch_some self.stock.frames.items (drop w leaves) c.requires.some o.stocked.gathered_are) in
    let e = c.in_default.ensures in
    let h = e.appended (take w leaves) (drop w leaves) o.ends batch (subst AreLeaves (sym (parts w leaves)) o.stocked.are) in
    let s = c.settle.ensures in
    let p = settled_parts self.stock c.settle.new.self s.leaves s.written in
    moved_batch g.A.Disk.view (archive_of self) _ self.tail c.append.new.self c.in_default.field-0 tt h refl refl e.opened p.0 p.1 e.store e.work e.four e.since

pub returns-in-Err-clause-whole : goal.returns-in-Err-clause-whole
returns-in-Err-clause-whole g c = ap (λ (t : Tail). t.end + frames_size (drop c.args.self.now.stock.written c.args.self.now.stock.leaves)) c.in-Err.ensures.err

pub returns-clause-whole : goal.returns-clause-whole
returns-clause-whole g c =
    let self = c.args.self.now in
    let s = c.settle.ensures in
    let same : c.deref.result.now ≡ self.stock.frames.items = search rules in
    let p = settled_parts self.stock c.settle.new.self s.leaves s.written in
    let size = gathered_size self.stock.frames.items (drop self.stock.written self.stock.leaves) c.requires.open.stocked.gathered_are in
    omega (arith, c.in_default.ensures.end, ap length same, size, ap frames_size p.1)
