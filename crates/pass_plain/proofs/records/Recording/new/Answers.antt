use Rattle.pass_plain.specs.declared.records.Recording.{Recording}
use Rattle.pass_plain.proofs.Walking.{unrecorded}
use Rattle.pass_plain.proofs.records.Recording.new.Goals as goal

pub returns : goal.returns
returns c =
    let r : Recording = record { registry = c.in_ok-registry.registry; files = c.new.result; list = c.new-2.result } in
    unrecorded c.args.start.now r c.in_ok-registry.ensures.after c.in_ok-registry.ensures.none_made c.new.ensures.empty c.new-2.ensures.items
