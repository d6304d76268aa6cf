use Rattle.pass_reference.proofs.States.{registry_next}
use Rattle.pass_reference.proofs.cache.registry_with.Goals as goal

pub returns : goal.returns
returns c =
    registry_next c.args.start.now c.args.history.now c.args.e.now c.in_ok-registry.registry c.follow.new.self c.in_ok-registry.ensures c.in_ok-follow.ensures.ok c.in_ok-follow.ensures.made
