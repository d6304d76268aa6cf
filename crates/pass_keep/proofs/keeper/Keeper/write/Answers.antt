use Rattle.std.proofs.Common.{◌≡◌, ◌≤◌, ◌∙◌, ℕ, IsTrue, refl, sym, ap, subst, arith}
use Rattle.pass_outside.specs.Areas.{Image}
use Rattle.pass_range.specs.Places.{Holds}
use Rattle.pass_keep.specs.Dirty.{Beside}
use Rattle.pass_keep.specs.Kept.{covered, IsKept}
use Rattle.pass_keep.proofs.Keeping.{noted_more, covered_le}
use Rattle.pass_keep.proofs.Writing.{all_there, held_left, wrote}
use Rattle.pass_keep.proofs.Holding.{keeper_still, keeper_noted, ok_case}
use Rattle.pass_keep.proofs.keeper.Keeper.write.Goals as goal

pub returns-then-is_err-clause-err : goal.returns-then-is_err-clause-err
returns-then-is_err-clause-err g c = λ past keeper free.
    let view = g.D.Disk.view in
    let k = c.args.self.now in
    let m = view k.disk in
    let disk = c.write_blocks.new.disk in
    let e = c.write_blocks.ensures in
    let kept = wrote past.story keeper.story m (view disk) k.log k.durable past.noted c.args.blocks.now c.write_blocks.result keeper.kept c.requires.sized free
    (λ i may. g.met.D.Disk.counts_now k.disk m.calls i (omega arith) may) (λ t u i le left. g.met.D.Disk.counts_more disk t u i le left)
    e.run e.beside e.log (λ ended. ap view (e.stands ended)) in
    keeper_still view past k _ keeper disk k.log kept refl refl refl refl

pub returns-clause-kept : goal.returns-clause-kept
returns-clause-kept g c = λ past files keeper given.
    let view = g.D.Disk.view in
    let k = c.args.self.now in
    let s = past.story in
    let xs = past.noted in
    let m = view k.disk in
    let disk = c.write_blocks.new.disk in
    let new = view disk in
    let e = c.write_blocks.ensures in
    let blocks = c.args.blocks.now in
    let kept : IsKept s new k.log k.durable xs = wrote s keeper.story m new k.log k.durable xs blocks c.write_blocks.result keeper.kept c.requires.sized (λ told. (given told).each)
    (λ i may. g.met.D.Disk.counts_now k.disk m.calls i (omega arith) may) (λ t u i le left. g.met.D.Disk.counts_more disk t u i le left)
    e.run e.beside e.log (λ ended. ap view (e.stands ended)) in
    let held = ok_case _ c.write_blocks.result c.is_err.result c.is_err.ensures.value c.if-is_err.false e.held in
    let seen = ok_case _ c.write_blocks.result c.is_err.result c.is_err.ensures.value c.if-is_err.false e.seen in
    let whole_store = ok_case _ c.write_blocks.result c.is_err.result c.is_err.ensures.value c.if-is_err.false e.durable in
    let bounded : (number : ℕ) → covered xs number ≤ k.durable = λ number. covered_le s m k.durable xs number keeper.kept.past in
    let whole = noted_more s new k.log k.durable xs files kept
    (λ told i since.
    let told_old : IsTrue m.tells = sym e.run.tells ∙ told in
    let may = c.note.ensures.now i since in
    let same = whole_store i may in
    held_left s keeper.story xs k.durable keeper.kept.within bounded files new.calls i (kept.present told i since)
    (all_there s xs k.durable files blocks m.seen.store c.requires.sized (given told_old) i.store (held told_old i may)
    (λ at bytes apart holds. subst (Holds at bytes) (sym same) ((seen told_old).stays at bytes apart holds)))) in
    keeper_noted view past k c.note.new.self keeper disk k.log k.durable files whole
    c.note.ensures.disk c.note.ensures.log c.note.ensures.durable c.note.ensures.syncs

pub returns-clause-whole : goal.returns-clause-whole
returns-clause-whole g c =
    let view = g.D.Disk.view in
    let whole = ok_case _ c.write_blocks.result c.is_err.result c.is_err.ensures.value c.if-is_err.false c.write_blocks.ensures.durable in
    subst (λ d. (i : Image) → (view d).left_since (view d).calls i → i.store ≡ (view d).seen.store) (sym c.note.ensures.disk) (λ i left. whole i (c.note.ensures.now i left))

pub returns-clause-seen : goal.returns-clause-seen
returns-clause-seen g c =
    let view = g.D.Disk.view in
    let seen = ok_case _ c.write_blocks.result c.is_err.result c.is_err.ensures.value c.if-is_err.false c.write_blocks.ensures.seen in
    subst (λ d. IsTrue (view c.args.self.now.disk).tells → Beside c.args.blocks.now (view c.args.self.now.disk).seen (view d).seen) (sym c.note.ensures.disk) seen
