use Rattle.std.proofs.Common.{◌<◌, refl, sym, ap, subst}
use Rattle.std.specs.Prelude.{is_some, IsSomeAnd, vec_len, vec_capacity}
use Rattle.std.specs.Ordering.{nat_cmp}
use Rattle.std.specs.BTreeSet.{insert_key}
use Rattle.pass_waldo.specs.declared.texts.Texts.{Texts}
use Rattle.pass_waldo.specs.declared.texts.Row.{Row}
use Rattle.pass_waldo.proofs.Texting.{files_change, values_stay}
use Rattle.pass_waldo.proofs.texts.Texts.put_file.Goals as goal
use Rattle.pass_entry.proofs.Variants.{on_ok}

pub returns-in-Some-clause-files : goal.returns-in-Some-clause-files
returns-in-Some-clause-files c =
    let old : Texts = c.args.self.now in
    let had : Row = c.in-Some.row.now in
    let row : Row = record { files = c.put.new.row; values = had.values } in
    let new : Texts = record old { rows = c.get_mut.follows.lender row } in
    let room : vec_len had.files < vec_capacity had.files = subst (λ o. IsSomeAnd o (λ r. vec_len r.files < vec_capacity r.files)) (sym c.in-Some.ensures.value) c.requires.room in
    files_change old new c.args.name.now had row c.in-Some.ensures.value ((c.get_mut.follows.holds row).3 (ap is_some (sym c.in-Some.ensures.value)))
    (λ xs. insert_key nat_cmp xs c.args.file) (on_ok c.put.result (c.put.ensures.room room) c.put.ensures.ok)

pub returns-in-Some-clause-values : goal.returns-in-Some-clause-values
returns-in-Some-clause-values c =
    let old : Texts = c.args.self.now in
    let had : Row = c.in-Some.row.now in
    let row : Row = record { files = c.put.new.row; values = had.values } in
    let new : Texts = record old { rows = c.get_mut.follows.lender row } in
    values_stay old new c.args.name.now had row c.in-Some.ensures.value ((c.get_mut.follows.holds row).3 (ap is_some (sym c.in-Some.ensures.value))) refl
