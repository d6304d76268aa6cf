use Rattle.pass_reference.proofs.Allowing.{asks_few}
use Rattle.pass_reference.proofs.cache.StateCache.judge.Goals as goal

pub answer-requires-clause-few : goal.answer-requires-clause-few
answer-requires-clause-few c = asks_few c.args.history.now c.args.e.now (c.in_ok-allowed.ensures.0 c.if-not-allowed.false)
