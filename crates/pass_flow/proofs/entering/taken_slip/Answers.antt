use Rattle.std.proofs.Common.{◌∙◌}
use Rattle.pass_flow.proofs.Versioning.{object_act, take_slip}
use Rattle.pass_flow.proofs.entering.taken_slip.Goals as goal

pub returns-clause-slip : goal.returns-clause-slip
returns-clause-slip c =
    c.slip_of.ensures
    ∙ take_slip c.args.act.now (object_act c.args.act.now c.requires.act) c.requires.takes c.args.versions.now.lineage c.args.source.now c.current.result (c.current.ensures ∙ c.take-taken.ensures.linked.node)
    c.take-taken.result c.take-taken.ensures.answer c.args.rest.items
