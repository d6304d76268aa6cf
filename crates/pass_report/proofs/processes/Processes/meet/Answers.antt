use Rattle.std.proofs.Common.{sym, ◌∙◌}
use Rattle.pass_plain.specs.Processes.{new_process}
use Rattle.pass_report.proofs.Filling.{same_filled}
use Rattle.pass_report.proofs.processes.Processes.meet.Goals as goal

pub returns-in_ok-insert-clause-same : goal.returns-in_ok-insert-clause-same
returns-in_ok-insert-clause-same c =
    same_filled (λ s. s) (λ who. new_process) c.args.self.now.states c.insert.new.self c.args.pnode c.new-state.result
    c.in_ok-insert.ensures.updates (sym c.contains_key.ensures ∙ c.if-not-contains_key.true) c.new-state.ensures
