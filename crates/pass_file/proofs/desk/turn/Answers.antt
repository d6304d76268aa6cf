use Rattle.std.proofs.Common.{sym, ◌∙◌}
use Rattle.pass_file.proofs.Quiet.{quiet_dirties}
use Rattle.pass_file.proofs.desk.turn.Goals as goal

pub returns-else-is_change-clause-dirty : goal.returns-else-is_change-clause-dirty
returns-else-is_change-clause-dirty c had was rows dirty =
    quiet_dirties c.args.state.now.dirty c.args.state.now.bytes had was c.args.act.now (sym c.is_change.ensures ∙ c.if-is_change.false) dirty
