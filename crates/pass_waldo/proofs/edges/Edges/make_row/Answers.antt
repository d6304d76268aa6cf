use Rattle.std.proofs.Common.{sym}
use Rattle.pass_waldo.specs.declared.edges.Edges.{Edges}
use Rattle.pass_waldo.specs.declared.edges.Row.{Row}
use Rattle.pass_waldo.proofs.Edging.{row_made, made_room_stays}
use Rattle.pass_waldo.proofs.edges.Edges.make_row.Goals as goal

pub returns-in_ok-insert-clause-same : goal.returns-in_ok-insert-clause-same
returns-in_ok-insert-clause-same c =
    let old : Edges = c.args.self.now in
    let new : Edges = record old { rows = c.insert.new.self } in
    let row : Row = record { parents = c.new.result; children = c.new-then-not-contains_key.result } in
    row_made old new c.args.node row (sym c.if-not-contains_key.ensures) c.in_ok-insert.ensures.updates.0 c.new.ensures.items c.new-then-not-contains_key.ensures.items

pub returns-in_ok-insert-clause-keeps : goal.returns-in_ok-insert-clause-keeps
returns-in_ok-insert-clause-keeps c =
    let old : Edges = c.args.self.now in
    let new : Edges = record old { rows = c.insert.new.self } in
    let row : Row = record { parents = c.new.result; children = c.new-then-not-contains_key.result } in
    made_room_stays old new c.args.node row (sym c.if-not-contains_key.ensures) c.in_ok-insert.ensures.updates.0
