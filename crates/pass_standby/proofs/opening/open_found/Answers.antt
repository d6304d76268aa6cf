use Rattle.std.proofs.Common.{ap}
use Rattle.pass_standby.proofs.Begins.{opened_kept, still_moments, still_bytes}
use Rattle.pass_standby.proofs.opening.open_found.Goals as goal

pub returns-clause-kept : goal.returns-clause-kept
returns-clause-kept g c =
    let e = c.in-Ok.ensures in
    opened_kept (g.D.Disk.view c.args.disk.now) (g.D.Disk.view c.open.new.disk) c.args.found c.in-Ok.log c.in_ok-index.index c.requires.found e.place c.in_ok-index.ensures
    e.settled e.opened e.work.tells e.same e.durable

pub returns-in_default-clause-any_moment : goal.returns-in_default-clause-any_moment
returns-in_default-clause-any_moment g c = λ tells.
    still_moments (g.D.Disk.view c.args.disk.now) (g.D.Disk.view c.open.new.disk) c.args.found c.requires.found (λ long. ap g.D.Disk.view (c.open.ensures.untouched long)) tells (c.open.ensures.any_moment tells)

pub returns-in_err-index-clause-any_moment : goal.returns-in_err-index-clause-any_moment
returns-in_err-index-clause-any_moment g c = λ tells.
    still_moments (g.D.Disk.view c.args.disk.now) (g.D.Disk.view c.open.new.disk) c.args.found c.requires.found (λ long. ap g.D.Disk.view (c.open.ensures.untouched long)) tells (c.open.ensures.any_moment tells)

pub returns-clause-any_moment : goal.returns-clause-any_moment
returns-clause-any_moment g c = λ tells.
    still_moments (g.D.Disk.view c.args.disk.now) (g.D.Disk.view c.open.new.disk) c.args.found c.requires.found (λ long. ap g.D.Disk.view (c.open.ensures.untouched long)) tells (c.open.ensures.any_moment tells)

pub returns-clause-bytes : goal.returns-clause-bytes
returns-clause-bytes g c =
    still_bytes (g.D.Disk.view c.args.disk.now) (g.D.Disk.view c.open.new.disk) c.args.found c.requires.found (λ long. ap g.D.Disk.view (c.open.ensures.untouched long)) _ c.in-Ok.ensures.place
