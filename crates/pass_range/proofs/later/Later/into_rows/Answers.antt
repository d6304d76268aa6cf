use Rattle.std.proofs.Common.{◌≡◌, List, sym, rules, subst}
use Rattle.std.specs.Prelude.{IfOk, map, Contains}
use Rattle.std.specs.declared.alloc.Global.{Global}
use Rattle.std.specs.declared.vec.Vec.{Vec}
use Rattle.std.proofs.lemmas.Result.{IfOk-weaker}
use Rattle.std.proofs.lemmas.Map.Views.{btree_map_get_iff}
use Rattle.pass_range.specs.Tables.{Row, range_at, IsAscending}
use Rattle.pass_range.proofs.Ordered.{range_cmp_total, range_cmp_exact, ascending_from_sorted}
use Rattle.pass_range.proofs.later.Later.into_rows.Goals as goal

abbrev Rows : Type 0
Rows = Vec Row Global

pub returns-clause-rows : goal.returns-clause-rows
returns-clause-rows c =
    let rows = c.args.self.rows in
    let items : IfOk c.collect.result (λ v. v.items ≡ rows.entries) = search rules in
    IfOk-weaker c.collect.result _ _
    (λ (v : Rows) is. λ p b d. let found = btree_map_get_iff range_cmp_total range_cmp_exact rows c.into_iter.ensures.into_iter_gives.5 (range_at p b) d in
    (λ h. found.1 (subst (λ (l : List Row). Contains l (range_at p b, d)) is h), λ h. subst (λ (l : List Row). Contains l (range_at p b, d)) (sym is) (found.0 h)))
    items

pub returns-clause-ascending : goal.returns-clause-ascending
returns-clause-ascending c =
    let rows = c.args.self.rows in
    let items : IfOk c.collect.result (λ v. v.items ≡ rows.entries) = search rules in
    IfOk-weaker c.collect.result _ _
    (λ (v : Rows) is. subst (λ (l : List Row). IsAscending (map (λ (row : Row). row.0) l)) (sym is) (ascending_from_sorted (map (λ (row : Row). row.0) rows.entries) c.into_iter.ensures.into_iter_gives.5))
    items
