use Rattle.pass_turns.proofs.running.run.Goals as goal
use Rattle.pass_turns.proofs.Crews.{ran_by}

pub returns : goal.returns
returns g c = ran_by g.J.Whose.book.session g.J.Whose.places c.args.plan.now c.perform-ran.result.trails.items c.perform-ran.result.last c.perform-ran.ensures
