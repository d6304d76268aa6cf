use Rattle.pass_graph.proofs.laws.edges.Goals as goal
use Rattle.pass_graph.proofs.Listing.{version_record_law, input_record_law}

pub returns-clause-versions : goal.returns-clause-versions
returns-clause-versions c = version_record_law

pub returns-clause-inputs : goal.returns-clause-inputs
returns-clause-inputs c = input_record_law
