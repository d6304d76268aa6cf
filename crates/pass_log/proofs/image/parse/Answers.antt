use Rattle.std.proofs.Common.{arith}
use Rattle.pass_log.specs.LogImage.{held_in}
use Rattle.pass_log.specs.Records.{image_of, records_of, Fails}
use Rattle.pass_log.proofs.Reading.{gives_fault, image_bad}
use Rattle.pass_log.proofs.image.parse.Goals as goal

pub returns-in_err-list-clause-exact : goal.returns-in_err-list-clause-exact
returns-in_err-list-clause-exact c =
    let frames = c.in_ok-end.ensures.ok.0 in
    let bad : Fails c.in_err-list.field-0.0 (records_of 0 frames) = c.in_err-list.ensures.exact frames c.in_ok-end.end c.in_ok-end.ensures.ok.1 in
    gives_fault held_in c.from_residual-in_err-list.result c.in_err-list.field-0.0 (image_of c.args.bytes.now) c.from_residual-in_err-list.ensures.1
    (image_bad c.in_err-list.field-0.0 c.args.bytes.now frames c.in_ok-end.end (omega (arith, c.if-bytes-le1.false)) (omega (arith, c.requires)) c.in_ok-end.ensures.ok.1 bad)
