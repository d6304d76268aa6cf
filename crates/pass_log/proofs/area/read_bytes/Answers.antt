use Rattle.pass_log.proofs.Reading.{long_area}
use Rattle.pass_log.proofs.area.read_bytes.Goals as goal

pub returns-then-size-gt-LONGEST-clause-fault : goal.returns-then-size-gt-LONGEST-clause-fault
returns-then-size-gt-LONGEST-clause-fault g c =
    let m = g.D.Disk.view c.args.disk.now in
    long_area m.tells m.seen.log c.in_ok-size.size c.in_ok-size.ensures.length c.if-size-gt-LONGEST.true
