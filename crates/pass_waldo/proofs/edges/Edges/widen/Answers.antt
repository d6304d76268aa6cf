use Rattle.std.proofs.Common.{refl, sym, ap, arith}
use Rattle.std.specs.Prelude.{is_some}
use Rattle.pass_waldo.specs.declared.edges.Edges.{Edges}
use Rattle.pass_waldo.specs.declared.edges.Row.{Row}
use Rattle.pass_waldo.proofs.Edging.{rows_stay, parent_room_stays, child_room_stays}
use Rattle.pass_waldo.proofs.edges.Edges.widen.Goals as goal

pub returns-in_err-reserve-in-Some-clause-same : goal.returns-in_err-reserve-in-Some-clause-same
returns-in_err-reserve-in-Some-clause-same c =
    let old : Edges = c.args.self.now in
    let had : Row = c.in-Some.row.now in
    let row : Row = record { parents = c.reserve.new.self; children = had.children } in
    let new : Edges = record old { rows = c.get_mut.follows.lender row } in
    rows_stay old new c.args.node.now had row c.in-Some.ensures.value ((c.get_mut.follows.holds row).3 (ap is_some (sym c.in-Some.ensures.value))).0 c.reserve.ensures.items refl

pub returns-in_err-reserve-in-Some-clause-keeps : goal.returns-in_err-reserve-in-Some-clause-keeps
returns-in_err-reserve-in-Some-clause-keeps c = λ n room.
    let old : Edges = c.args.self.now in
    let had : Row = c.in-Some.row.now in
    let row : Row = record { parents = c.reserve.new.self; children = had.children } in
    let new : Edges = record old { rows = c.get_mut.follows.lender row } in
    let writes = ((c.get_mut.follows.holds row).3 (ap is_some (sym c.in-Some.ensures.value))).0 in (
      parent_room_stays old new c.args.node.now had row c.in-Some.ensures.value writes (λ r. let z = c.reserve.ensures.len in let y = c.reserve.ensures.capacity in omega (arith, r, z, y)) n room.0,
      child_room_stays old new c.args.node.now had row c.in-Some.ensures.value writes (λ r. r) n room.1,
    )

pub returns-in_err-reserve-in-Some-2-clause-same : goal.returns-in_err-reserve-in-Some-2-clause-same
returns-in_err-reserve-in-Some-2-clause-same c =
    let old : Edges = c.args.self.now in
    let had : Row = c.in-Some.row.now in
    let row : Row = record { parents = c.reserve.new.self; children = c.reserve-in-Some.new.self } in
    let new : Edges = record old { rows = c.get_mut.follows.lender row } in
    rows_stay old new c.args.node.now had row c.in-Some.ensures.value ((c.get_mut.follows.holds row).3 (ap is_some (sym c.in-Some.ensures.value))).0 c.reserve.ensures.items c.reserve-in-Some.ensures.items

pub returns-in_err-reserve-in-Some-2-clause-keeps : goal.returns-in_err-reserve-in-Some-2-clause-keeps
returns-in_err-reserve-in-Some-2-clause-keeps c = λ n room.
    let old : Edges = c.args.self.now in
    let had : Row = c.in-Some.row.now in
    let row : Row = record { parents = c.reserve.new.self; children = c.reserve-in-Some.new.self } in
    let new : Edges = record old { rows = c.get_mut.follows.lender row } in
    let writes = ((c.get_mut.follows.holds row).3 (ap is_some (sym c.in-Some.ensures.value))).0 in (
      parent_room_stays old new c.args.node.now had row c.in-Some.ensures.value writes (λ r. let z = c.reserve.ensures.len in let y = c.reserve.ensures.capacity in omega (arith, r, z, y)) n room.0,
      child_room_stays old new c.args.node.now had row c.in-Some.ensures.value writes (λ r. let z = c.reserve-in-Some.ensures.len in let y = c.reserve-in-Some.ensures.capacity in omega (arith, r, z, y)) n room.1,
    )

pub returns-in_ok-reserve-in-Some-2-clause-same : goal.returns-in_ok-reserve-in-Some-2-clause-same
returns-in_ok-reserve-in-Some-2-clause-same c =
    let old : Edges = c.args.self.now in
    let had : Row = c.in-Some.row.now in
    let row : Row = record { parents = c.reserve.new.self; children = c.reserve-in-Some.new.self } in
    let new : Edges = record old { rows = c.get_mut.follows.lender row } in
    rows_stay old new c.args.node.now had row c.in-Some.ensures.value ((c.get_mut.follows.holds row).3 (ap is_some (sym c.in-Some.ensures.value))).0 c.reserve.ensures.items c.reserve-in-Some.ensures.items

pub returns-in_ok-reserve-in-Some-2-clause-keeps : goal.returns-in_ok-reserve-in-Some-2-clause-keeps
returns-in_ok-reserve-in-Some-2-clause-keeps c = λ n room.
    let old : Edges = c.args.self.now in
    let had : Row = c.in-Some.row.now in
    let row : Row = record { parents = c.reserve.new.self; children = c.reserve-in-Some.new.self } in
    let new : Edges = record old { rows = c.get_mut.follows.lender row } in
    let writes = ((c.get_mut.follows.holds row).3 (ap is_some (sym c.in-Some.ensures.value))).0 in (
      parent_room_stays old new c.args.node.now had row c.in-Some.ensures.value writes (λ r. let z = c.reserve.ensures.len in let y = c.reserve.ensures.capacity in omega (arith, r, z, y)) n room.0,
      child_room_stays old new c.args.node.now had row c.in-Some.ensures.value writes (λ r. let z = c.reserve-in-Some.ensures.len in let y = c.reserve-in-Some.ensures.capacity in omega (arith, r, z, y)) n room.1,
    )
