use Rattle.std.proofs.Common.{refl, sym, ap}
use Rattle.std.specs.Prelude.{is_some}
use Rattle.pass_waldo.specs.declared.texts.Texts.{Texts}
use Rattle.pass_waldo.specs.declared.texts.Row.{Row}
use Rattle.pass_waldo.proofs.Texting.{rows_stay}
use Rattle.pass_waldo.proofs.texts.Texts.widen_values.Goals as goal

pub returns-in-Some-clause-same : goal.returns-in-Some-clause-same
returns-in-Some-clause-same c =
    let old : Texts = c.args.self.now in
    let had : Row = c.in-Some.row.now in
    let row : Row = record { files = had.files; values = c.reserve.new.self } in
    let new : Texts = record old { rows = c.get_mut.follows.lender row } in
    rows_stay old new c.args.attr.now had row c.in-Some.ensures.value ((c.get_mut.follows.holds row).3 (ap is_some (sym c.in-Some.ensures.value))) refl c.reserve.ensures.items
