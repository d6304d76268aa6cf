use Rattle.pass_plain.proofs.laws.awaits.Goals as goal
use Rattle.pass_plain.proofs.Awaits.{no_flow_law, release_law}

pub returns-clause-flows : goal.returns-clause-flows
returns-clause-flows c = no_flow_law

pub returns-clause-released : goal.returns-clause-released
returns-clause-released c = release_law
