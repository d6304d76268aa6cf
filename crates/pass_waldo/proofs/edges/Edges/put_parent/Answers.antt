use Rattle.std.proofs.Common.{refl, sym, ap}
use Rattle.std.specs.Prelude.{is_some}
use Rattle.pass_waldo.specs.declared.edges.Edges.{Edges}
use Rattle.pass_waldo.specs.declared.edges.Row.{Row}
use Rattle.pass_waldo.proofs.Edging.{children_stay, child_room_stays}
use Rattle.pass_waldo.proofs.edges.Edges.put_parent.Goals as goal

pub returns-in-Some-clause-children : goal.returns-in-Some-clause-children
returns-in-Some-clause-children c =
    let old : Edges = c.args.self.now in
    let had : Row = c.in-Some.row.now in
    let row : Row = record { parents = c.put.new.row; children = had.children } in
    let new : Edges = record old { rows = c.get_mut.follows.lender row } in
    children_stay old new c.args.node.now had row c.in-Some.ensures.value ((c.get_mut.follows.holds row).3 (ap is_some (sym c.in-Some.ensures.value))).0 refl

pub returns-in-Some-clause-keeps : goal.returns-in-Some-clause-keeps
returns-in-Some-clause-keeps c =
    let old : Edges = c.args.self.now in
    let had : Row = c.in-Some.row.now in
    let row : Row = record { parents = c.put.new.row; children = had.children } in
    let new : Edges = record old { rows = c.get_mut.follows.lender row } in
    child_room_stays old new c.args.node.now had row c.in-Some.ensures.value ((c.get_mut.follows.holds row).3 (ap is_some (sym c.in-Some.ensures.value))).0 (λ room. room)
