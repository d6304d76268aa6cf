use Rattle.std.proofs.Common.{ℕ, List, ap, sym, ◌∙◌, get_or}
use Rattle.std.specs.Prelude.{Some}
use Rattle.std.specs.List.{remove}
use Rattle.std.specs.Ordering.{nat_cmp}
use Rattle.std.specs.Cmp.Lexicographic.{slice_cmp, nat_list_cmp_total}
use Rattle.std.specs.FinMap as finite_map
use Rattle.pass_registry.specs.Places.{Entries, without}
use Rattle.pass_registry.proofs.Ascending.{found_at, out_at, missing, all_stay}
use Rattle.pass_registry.proofs.names.take_out.Goals as goal

pub returns-in-Ok-clause-answer : goal.returns-in-Ok-clause-answer
returns-in-Ok-clause-answer c =
    let read = c.deref.ensures.value in
    let e = c.remove-name.result in
    let ascending = ap (λ (es : Entries). finite_map.is_sorted (slice_cmp nat_cmp) es) read ∙ c.requires in
    ap (λ (x : List ℕ × ℕ). Some x.1) (c.remove-name.ensures.value)
    ∙ ap (λ (es : Entries). Some (get_or es c.in-Ok.place e).1) (sym read)
    ∙ sym (found_at (slice_cmp nat_cmp) nat_list_cmp_total c.args.name.now c.deref.result.now ascending c.in-Ok.place e c.in-Ok.ensures.within (c.in-Ok.ensures.place e))
    ∙ ap (λ (es : Entries). finite_map.find (slice_cmp nat_cmp) c.args.name.now es) read

pub returns-in-Ok-clause-items : goal.returns-in-Ok-clause-items
returns-in-Ok-clause-items c =
    let read = c.deref.ensures.value in
    let e = c.remove-name.result in
    let ascending = ap (λ (es : Entries). finite_map.is_sorted (slice_cmp nat_cmp) es) read ∙ c.requires in
    c.remove-name.ensures.items
    ∙ ap (λ (es : Entries). remove es c.in-Ok.place) (sym read)
    ∙ sym (out_at (slice_cmp nat_cmp) nat_list_cmp_total c.args.name.now c.deref.result.now ascending c.in-Ok.place e c.in-Ok.ensures.within (c.in-Ok.ensures.place e))
    ∙ ap (without c.args.name.now) read

pub returns-in-Err-clause-answer : goal.returns-in-Err-clause-answer
returns-in-Err-clause-answer c =
    sym (missing (slice_cmp nat_cmp) nat_list_cmp_total c.args.name.now c.deref.result.now c.in-Err.field-0 c.in-Err.ensures.place)
    ∙ ap (λ (es : Entries). finite_map.find (slice_cmp nat_cmp) c.args.name.now es) c.deref.ensures.value

pub returns-in-Err-clause-items : goal.returns-in-Err-clause-items
returns-in-Err-clause-items c =
    sym c.deref.ensures.value
    ∙ sym (all_stay (slice_cmp nat_cmp) nat_list_cmp_total c.args.name.now c.deref.result.now c.in-Err.field-0 c.in-Err.ensures.place)
    ∙ ap (without c.args.name.now) c.deref.ensures.value
