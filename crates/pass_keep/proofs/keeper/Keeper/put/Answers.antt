use Rattle.std.proofs.Common.{[], ◌∷◌, refl, sym, ap, subst, arith}
use Rattle.pass_range.specs.Places.{place, Holds}
use Rattle.pass_range.proofs.Apart.{holds_written}
use Rattle.pass_keep.proofs.Writing.{beside_torn, wrote, one_follows, one_run, one_sized}
use Rattle.pass_keep.proofs.Holding.{keeper_still, ok_case}
use Rattle.pass_keep.proofs.keeper.Keeper.put.Goals as goal

pub returns-then-is_err-clause-kept : goal.returns-then-is_err-clause-kept
returns-then-is_err-clause-kept g c = λ past keeper free.
    let view = g.D.Disk.view in
    let k = c.args.self.now in
    let m = view k.disk in
    let disk = c.write_range.new.disk in
    let x = c.args.block in
    let e = c.write_range.ensures in
    let size = one_sized x c.requires.sized in
    let kept = wrote past.story keeper.story m (view disk) k.log k.durable past.noted (x ∷ []) c.write_range.result keeper.kept size free
    (λ i may. g.met.D.Disk.counts_now k.disk m.calls i (omega arith) may) (λ t u i le left. g.met.D.Disk.counts_more disk t u i le left)
    (one_run x m (view disk) size e.crash c.write_range.result e.call) (one_follows x m (view disk) size e.crash) (λ told. (e.content told).elsewhere) (λ ended. ap view (e.stands ended)) in
    keeper_still view past k _ keeper disk k.log kept refl refl refl refl

pub returns-clause-kept : goal.returns-clause-kept
returns-clause-kept g c = λ past keeper free.
    let view = g.D.Disk.view in
    let k = c.args.self.now in
    let m = view k.disk in
    let disk = c.write_range.new.disk in
    let x = c.args.block in
    let e = c.write_range.ensures in
    let size = one_sized x c.requires.sized in
    let kept = wrote past.story keeper.story m (view disk) k.log k.durable past.noted (x ∷ []) c.write_range.result keeper.kept size free
    (λ i may. g.met.D.Disk.counts_now k.disk m.calls i (omega arith) may) (λ t u i le left. g.met.D.Disk.counts_more disk t u i le left)
    (one_run x m (view disk) size e.crash c.write_range.result e.call) (one_follows x m (view disk) size e.crash) (λ told. (e.content told).elsewhere) (λ ended. ap view (e.stands ended)) in
    keeper_still view past k _ keeper disk k.log kept refl refl refl refl

pub returns-clause-held : goal.returns-clause-held
returns-clause-held g c = λ told.
    let x = c.args.block in
    let done = ok_case _ c.write_range.result c.is_err.result c.is_err.ensures.value c.if-is_err.false c.write_range.ensures.written in
    subst (Holds (place x.number x.block) x.bytes.now) (sym (done told)) (holds_written (g.D.Disk.view c.args.self.now.disk).seen.store (place x.number x.block) x.bytes.now)

pub returns-clause-seen : goal.returns-clause-seen
returns-clause-seen g c = λ told.
    let x = c.args.block in
    beside_torn (x ∷ []) 0 x refl (g.D.Disk.view c.args.self.now.disk).seen (g.D.Disk.view c.write_range.new.disk).seen (c.write_range.ensures.content told)
