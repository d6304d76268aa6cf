use Rattle.pass_graph.proofs.bounds.lists.Goals as goal
use Rattle.pass_graph.proofs.Growing.{ceiling_length_law, version_length_law, ceiling_room_law, version_room_law}

pub returns-clause-ceiling : goal.returns-clause-ceiling
returns-clause-ceiling c = ceiling_length_law

pub returns-clause-versions : goal.returns-clause-versions
returns-clause-versions c = version_length_law

pub returns-clause-ceiling_room : goal.returns-clause-ceiling_room
returns-clause-ceiling_room c = ceiling_room_law

pub returns-clause-version_room : goal.returns-clause-version_room
returns-clause-version_room c = version_room_law
