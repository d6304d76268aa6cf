use Rattle.std.proofs.Common.{ap}
use Rattle.pass_version.specs.States.{VersionState}
use Rattle.pass_flow.proofs.Flowing.{versioned_first}
use Rattle.pass_flow.proofs.app.AppDesk.new.Goals as goal

pub invariant_of-result : goal.invariant_of-result
invariant_of-result g c =
    versioned_first g.J.Whose.book c.args.desk c.args.what c.args.version c.args.marked c.new.result (ap (λ (v : VersionState). v.lineage) c.new.ensures)
    c.requires.desk.0 c.requires.desk.1 c.requires.desk.2 c.requires.version c.requires.marked
