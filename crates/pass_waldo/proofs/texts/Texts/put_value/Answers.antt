use Rattle.std.proofs.Common.{◌≡◌, ◌<◌, true, [], ◌∷◌, ◌++◌, cond, refl, sym, ap, ◌∙◌, subst}
use Rattle.std.specs.Prelude.{is_some, is_ok, IsSomeAnd, vec_len, vec_capacity}
use Rattle.pass_waldo.specs.declared.texts.Texts.{Texts}
use Rattle.pass_waldo.specs.declared.texts.Row.{Row}
use Rattle.pass_waldo.proofs.Texting.{files_stay, values_change}
use Rattle.pass_waldo.proofs.texts.Texts.put_value.Goals as goal

pub returns-in-Some-clause-values : goal.returns-in-Some-clause-values
returns-in-Some-clause-values c =
    let old : Texts = c.args.self.now in
    let had : Row = c.in-Some.row.now in
    let row : Row = record { files = had.files; values = c.push.new.self } in
    let new : Texts = record old { rows = c.get_mut.follows.lender row } in
    let room : vec_len had.values < vec_capacity had.values = subst (λ o. IsSomeAnd o (λ r. vec_len r.values < vec_capacity r.values)) (sym c.in-Some.ensures.value) c.requires in
    let put : is_ok c.push.result ≡ true = c.push.ensures.succeeds room in
    values_change old new c.args.attr.now had row c.in-Some.ensures.value ((c.get_mut.follows.holds row).3 (ap is_some (sym c.in-Some.ensures.value)))
    (λ xs. xs ++ (c.args.node, c.args.value) ∷ []) (c.push.ensures.items ∙ ap (λ b. cond b (had.values.items ++ (c.args.node, c.args.value) ∷ []) had.values.items) put)

pub returns-in-Some-clause-files : goal.returns-in-Some-clause-files
returns-in-Some-clause-files c =
    let old : Texts = c.args.self.now in
    let had : Row = c.in-Some.row.now in
    let row : Row = record { files = had.files; values = c.push.new.self } in
    let new : Texts = record old { rows = c.get_mut.follows.lender row } in
    files_stay old new c.args.attr.now had row c.in-Some.ensures.value ((c.get_mut.follows.holds row).3 (ap is_some (sym c.in-Some.ensures.value))) refl
