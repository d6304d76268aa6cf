use Rattle.std.proofs.Common.{◌∙◌, sym}
use Rattle.pass_trace.specs.TraceLines.{plain_trace}
use Rattle.pass_walk.proofs.plan.Plan.room.Goals as goal
use Rattle.pass_walk.proofs.Placed.{first_line}
use Rattle.pass_walk.proofs.Planned.{all_left, has_room}

pub left-most-requires : goal.left-most-requires
left-most-requires g c = (0, first_line (plain_trace c.args.self.now) 1 c.first.result c.first.ensures)

pub returns : goal.returns
returns g c =
    has_room (plain_trace c.args.self.now) c.with_capacity.result c.left-most.result (all_left (plain_trace c.args.self.now) 1 c.first.result c.first.ensures ∙ sym c.left-most.ensures)
    c.with_capacity.ensures.items c.with_capacity.ensures.capacity
