use Rattle.pass_log.proofs.Reading.{area_fault}
use Rattle.pass_log.proofs.area.read_image.Goals as goal

pub returns-in_err-bytes-clause-fault : goal.returns-in_err-bytes-clause-fault
returns-in_err-bytes-clause-fault g c =
    area_fault (g.D.Disk.view c.args.disk.now) c.from_residual.result c.in_err-bytes.field-0.0 c.from_residual.ensures.1 c.in_err-bytes.ensures.fault
