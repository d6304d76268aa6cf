use Rattle.std.proofs.Common.{refl, sym, ap}
use Rattle.std.specs.Prelude.{is_some}
use Rattle.pass_waldo.specs.declared.edges.Edges.{Edges}
use Rattle.pass_waldo.specs.declared.edges.Row.{Row}
use Rattle.pass_waldo.proofs.Edging.{parents_stay}
use Rattle.pass_waldo.proofs.edges.Edges.put_child.Goals as goal

pub returns-in-Some-clause-parents : goal.returns-in-Some-clause-parents
returns-in-Some-clause-parents c =
    let old : Edges = c.args.self.now in
    let had : Row = c.in-Some.row.now in
    let row : Row = record { parents = had.parents; children = c.put.new.row } in
    let new : Edges = record old { rows = c.get_mut.follows.lender row } in
    parents_stay old new c.args.node.now had row c.in-Some.ensures.value ((c.get_mut.follows.holds row).3 (ap is_some (sym c.in-Some.ensures.value))).0 refl
