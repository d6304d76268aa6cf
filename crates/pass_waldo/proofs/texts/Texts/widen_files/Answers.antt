use Rattle.std.proofs.Common.{refl, sym, ap}
use Rattle.std.specs.Prelude.{is_some}
use Rattle.pass_waldo.specs.declared.texts.Texts.{Texts}
use Rattle.pass_waldo.specs.declared.texts.Row.{Row}
use Rattle.pass_waldo.proofs.Texting.{rows_stay}
use Rattle.pass_waldo.proofs.texts.Texts.widen_files.Goals as goal

pub returns-in-Some-clause-same : goal.returns-in-Some-clause-same
returns-in-Some-clause-same c =
    let old : Texts = c.args.self.now in
    let had : Row = c.in-Some.row.now in
    let row : Row = record { files = c.reserve.new.self; values = had.values } in
    let new : Texts = record old { rows = c.get_mut.follows.lender row } in
    rows_stay old new c.args.name.now had row c.in-Some.ensures.value ((c.get_mut.follows.holds row).3 (ap is_some (sym c.in-Some.ensures.value))) c.reserve.ensures.items refl
