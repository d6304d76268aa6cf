use Rattle.pass_bounds.proofs.Images.{image_law, opened_law}
use Rattle.pass_bounds.proofs.laws.logs.Goals as goal

pub returns-clause-image : goal.returns-clause-image
returns-clause-image c = image_law

pub returns-clause-opened : goal.returns-clause-opened
returns-clause-opened c = opened_law c.lists.ensures.ceiling c.lists.ensures.versions
