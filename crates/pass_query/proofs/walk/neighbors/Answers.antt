use Rattle.pass_query.proofs.walk.neighbors.Goals as goal

pub returns-in-Back : goal.returns-in-Back
returns-in-Back c = rw c.in-Back.is c.parents.ensures

pub returns-in-On : goal.returns-in-On
returns-in-On c = rw c.in-On.is c.children.ensures
