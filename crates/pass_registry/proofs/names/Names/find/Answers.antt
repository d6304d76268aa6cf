use Rattle.std.proofs.Common.{ℕ, List, ap, sym, ◌∙◌, get_or}
use Rattle.std.specs.Prelude.{Some}
use Rattle.std.specs.Ordering.{nat_cmp}
use Rattle.std.specs.Cmp.Lexicographic.{slice_cmp, nat_list_cmp_total}
use Rattle.std.specs.FinMap.{is_sorted, get}
use Rattle.pass_registry.specs.Places.{Entries, map_of, NameState}
use Rattle.pass_registry.proofs.Ascending.{found_at, missing}
use Rattle.pass_registry.proofs.NameMaps.{found_is}
use Rattle.pass_registry.proofs.names.Names.find.Goals as goal

pub returns-in-Ok : goal.returns-in-Ok
returns-in-Ok c =
    let read = c.deref.ensures.value in
    let e = c.index.result.now in
    let name = c.args.name.now in
    let ascending = ap (λ (es : Entries). is_sorted (slice_cmp nat_cmp) es) read ∙ c.self.invariant.0 in
    ap (λ (x : List ℕ × ℕ). Some x.1) c.index.ensures
    ∙ ap (λ (es : Entries). Some (get_or es c.in-Ok.place e).1) (sym read)
    ∙ sym (found_at (slice_cmp nat_cmp) nat_list_cmp_total name c.deref.result.now ascending c.in-Ok.place e c.in-Ok.ensures.within (c.in-Ok.ensures.place e))
    ∙ found_is name c.deref.result.now ∙ ap (λ (es : Entries). get (map_of es) name) read ∙ ap (λ (s : NameState). get s.names name) c.self.view_is

pub returns-in-Err : goal.returns-in-Err
returns-in-Err c =
    let read = c.deref.ensures.value in
    let name = c.args.name.now in
    sym (missing (slice_cmp nat_cmp) nat_list_cmp_total name c.deref.result.now c.in-Err.field-0 c.in-Err.ensures.place)
    ∙ found_is name c.deref.result.now ∙ ap (λ (es : Entries). get (map_of es) name) read ∙ ap (λ (s : NameState). get s.names name) c.self.view_is
