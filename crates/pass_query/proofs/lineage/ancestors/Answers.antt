use Rattle.pass_query.proofs.lineage.ancestors.Goals as goal

pub returns-clause-counted : goal.returns-clause-counted
returns-clause-counted g c = c.others.ensures.counted
