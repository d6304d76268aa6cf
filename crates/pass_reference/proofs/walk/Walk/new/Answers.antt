use Rattle.pass_reference.specs.declared.walk.Walk.{Walk}
use Rattle.pass_reference.proofs.Walking.{begun}
use Rattle.pass_reference.proofs.walk.Walk.new.Goals as goal

pub returns : goal.returns
returns c =
    let w : Walk = record { nodes = c.new.result; recording = c.in_ok-new.field-0 } in
    begun c.args.start.now w c.requires c.new.ensures.items c.in_ok-new.ensures
