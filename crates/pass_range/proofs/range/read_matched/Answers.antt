use Rattle.pass_outside.specs.Runs.{adds_weaker}
use Rattle.pass_range.proofs.range.read_matched.Goals as goal

pub returns-in_err-read_range-clause-run : goal.returns-in_err-read_range-clause-run
returns-in_err-read_range-clause-run g c =
    let old = g.D.Disk.view c.args.disk.now in
    adds_weaker old.may_leave old (g.D.Disk.view c.read_range.new.disk) c.read_range.ensures.call.adds c.read_range.ensures.crash
