use Rattle.std.proofs.Common.{rules, ◌≡◌, ◌<◌, ◌∙◌, [], length, refl, ap, sym, subst, arith}
use Rattle.std.specs.Prelude.{Ok}
use Rattle.std.proofs.lemmas.List.{nil_from_length}
use Rattle.pass_leaf.specs.declared.fault.OldFault.TheVariants as faults
use Rattle.pass_leaf.specs.Gatherings.{frames_size, Gathering, settled}
use Rattle.pass_leaf.specs.Open.{archive_of, gathering_of, HasMoved}
use Rattle.pass_leaf.proofs.Answering.{settled_none, settled_some, none_gathered, moved_still, moved_not, gathered_size}
use Rattle.pass_leaf.proofs.shelf.Shelf.settle.Goals as goal

pub returns-in-Err-clause-moved : goal.returns-in-Err-clause-moved
returns-in-Err-clause-moved g c =
    let a = archive_of c.args.self.now in
    moved_not g.A.Disk.view a (settled (gathering_of a)) c.in-Err.fault (λ is. let z : faults.Broken a.opened (g.A.Disk.view a.disk).faults ≡ faults.DiskFault = sym c.in-Err.ensures.err.0 ∙ is in cc)

pub returns-then-gathered-eq0-clause-moved : goal.returns-then-gathered-eq0-clause-moved
returns-then-gathered-eq0-clause-moved g c =
    let a = archive_of c.args.self.now in
    let len : c.len-gathered.result ≡ length c.args.self.now.stock.frames.items = search rules in
    let none : c.args.self.now.stock.frames.items ≡ [] = nil_from_length c.args.self.now.stock.frames.items (omega (arith, len, c.if-gathered-eq0.true)) in
    let nothing : a.gathered ≡ [] = none_gathered c.args.self.now.stock.frames.items a.gathered none c.requires.open.stocked.gathered_are in
    subst (λ (x : Gathering). HasMoved g.A.Disk.view a a x (Ok tt)) (sym (settled_none (gathering_of a) nothing)) (moved_still g.A.Disk.view a a.gathered (gathering_of a) tt refl refl refl)

pub returns-then-gathered-eq0-clause-ends : goal.returns-then-gathered-eq0-clause-ends
returns-then-gathered-eq0-clause-ends g c =
    let a = archive_of c.args.self.now in
    let len : c.len-gathered.result ≡ length c.args.self.now.stock.frames.items = search rules in
    let none : c.args.self.now.stock.frames.items ≡ [] = nil_from_length c.args.self.now.stock.frames.items (omega (arith, len, c.if-gathered-eq0.true)) in
    let nothing : a.gathered ≡ [] = none_gathered c.args.self.now.stock.frames.items a.gathered none c.requires.open.stocked.gathered_are in
    omega (arith, ap frames_size nothing)

pub returns-clause-moved : goal.returns-clause-moved
returns-clause-moved g c =
    let self = c.args.self.now in
    let a = archive_of self in
    let len : c.len-gathered.result ≡ length self.stock.frames.items = search rules in
    let some : 0 < length self.stock.frames.items = omega (arith, len, c.if-gathered-eq0.false) in
    let size = gathered_size self.stock.frames.items a.gathered c.requires.open.stocked.gathered_are in
    subst (λ (x : Gathering). HasMoved g.A.Disk.view a (archive_of c.write.new.self) x c.write.result) (sym (settled_some (gathering_of a) (omega (arith, some, size)))) c.write.ensures.moved
