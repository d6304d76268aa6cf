use Rattle.std.proofs.Common.{[], IsOk, get_or, refl, sym, subst, ap}
use Rattle.std.proofs.lemmas.Option.{slice_get-get_or}
use Rattle.pass_outside.specs.Moments.{IsAtEnd}
use Rattle.pass_keep.specs.declared.block.Block.{Block}
use Rattle.pass_keep.proofs.Writing.{follows_more, writing_more, writing_failed}
use Rattle.pass_keep.proofs.block.write_blocks.Goals as goal

abbrev none : Block
none = record { number = 0; block = 0; bytes = record { ref_ptr = (0, 0); now = [] } }

pub returns-in_err-write_range-clause-beside : goal.returns-in_err-write_range-clause-beside
returns-in_err-write_range-clause-beside g c =
    let i = c.loop-one.one-index in
    follows_more c.args.blocks.now (g.D.Disk.view c.args.disk.now) (g.D.Disk.view c.loop-one.disk) (g.D.Disk.view c.write_range.new.disk) i (get_or c.args.blocks.now i none)
    (slice_get-get_or c.args.blocks.now i none c.loop-one-test.true) c.loop-one.invariant.writing c.write_range.ensures.crash

pub returns-in_err-write_range-clause-run : goal.returns-in_err-write_range-clause-run
returns-in_err-write_range-clause-run g c =
    let i = c.loop-one.one-index in
    writing_failed c.args.blocks.now (g.D.Disk.view c.args.disk.now) (g.D.Disk.view c.loop-one.disk) (g.D.Disk.view c.write_range.new.disk) i (get_or c.args.blocks.now i none)
    (slice_get-get_or c.args.blocks.now i none c.loop-one-test.true) c.loop-one.invariant.writing c.write_range.ensures.crash
    c.write_range.result c.in_err-write_range.field-0.0 c.from_residual.result c.write_range.ensures.call c.in_err-write_range.was c.from_residual.ensures.0
    (λ ended. ap g.D.Disk.view (c.loop-one.invariant.stands ended))

pub loop-one-preserved : goal.loop-one-preserved
loop-one-preserved g c =
    let i = c.loop-one.one-index in
    let went : IsOk c.write_range.result = subst IsOk (sym c.in_ok-write_range.was) refl in
    let call = c.write_range.ensures.call in
    let inv = c.loop-one.invariant in
    record {
      writing = writing_more c.args.blocks.now (g.D.Disk.view c.args.disk.now) (g.D.Disk.view c.loop-one.disk) (g.D.Disk.view c.write_range.new.disk) i (get_or c.args.blocks.now i none)
          (slice_get-get_or c.args.blocks.now i none c.loop-one-test.true) inv.writing c.write_range.ensures.crash
          c.write_range.result c.requires.ascending c.requires.sized went call c.write_range.ensures.content c.in_ok-write_range.ensures.written;
      stands = λ ended. absurd ((call.ok went).1 (subst (λ d. IsAtEnd (g.D.Disk.view d)) (sym (inv.stands ended)) ended));
    }
