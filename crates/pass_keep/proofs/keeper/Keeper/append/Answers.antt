use Rattle.std.proofs.Common.{false, refl}
use Rattle.pass_keep.proofs.Keeping.{noted_alone}
use Rattle.pass_keep.proofs.Holding.{keeper_still, keeper_noted, err_case, ok_case}
use Rattle.pass_keep.proofs.keeper.Keeper.append.Goals as goal

pub returns-then-is_err-clause-err : goal.returns-then-is_err-clause-err
returns-then-is_err-clause-err g c = λ past parts keeper within cut are.
    let k = c.args.self.now in
    let still = err_case _ c.append_frames.result c.is_err.result c.is_err.ensures.value c.if-is_err.true c.append_frames.ensures.err in
    keeper_still g.D.Disk.view past k _ keeper c.append_frames.new.disk c.append_frames.new.log
    (still past.story past.noted k.durable c.args.upto parts keeper.story keeper.kept within cut are) refl refl refl refl

pub returns-clause-kept : goal.returns-clause-kept
returns-clause-kept g c = λ past parts keeper within cut are.
    let view = g.D.Disk.view in
    let k = c.args.self.now in
    let s = past.story in
    let disk = c.append_frames.new.disk in
    let log = c.append_frames.new.log in
    let upto = c.args.upto in
    let more = ok_case _ c.append_frames.result c.is_err.result c.is_err.ensures.value c.if-is_err.false c.append_frames.ensures.kept in
    let kept = more s past.noted k.durable upto parts keeper.story keeper.kept within cut are in
    keeper_noted view past k c.note.new.self keeper disk log upto (λ number. false) (noted_alone s (view disk) log upto past.noted kept)
    c.note.ensures.disk c.note.ensures.log c.note.ensures.durable c.note.ensures.syncs
