use Rattle.std.proofs.Common.{◌≤◌, ℕ}
use Rattle.pass_keep.specs.Kept.{covered}
use Rattle.pass_keep.proofs.Keeping.{noted_more, covered_le}
use Rattle.pass_keep.proofs.Writing.{held_left}
use Rattle.pass_keep.proofs.Holding.{keeper_noted}
use Rattle.pass_keep.proofs.keeper.Keeper.clean.Goals as goal

pub returns-clause-kept : goal.returns-clause-kept
returns-clause-kept g c = λ past files keeper there.
    let view = g.D.Disk.view in
    let k = c.args.self.now in
    let s = past.story in
    let xs = past.noted in
    let m = view k.disk in
    let bounded : (number : ℕ) → covered xs number ≤ k.durable = λ number. covered_le s m k.durable xs number keeper.kept.past in
    let whole = noted_more s m k.log k.durable xs files keeper.kept
    (λ told i since. held_left s keeper.story xs k.durable keeper.kept.within bounded files m.calls i (keeper.kept.present told i since) (there told i (c.note.ensures.now i since))) in
    keeper_noted view past k c.note.new.self keeper k.disk k.log k.durable files whole
    c.note.ensures.disk c.note.ensures.log c.note.ensures.durable c.note.ensures.syncs
