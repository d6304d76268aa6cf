use Rattle.std.proofs.Common.{◌≡◌, ◌<◌, refl, ap, sym, ◌∙◌, cond}
use Rattle.std.specs.Prelude.{Result, Ok, Err, IsOk, is_ok, vec_len, vec_capacity}
use Rattle.std.specs.List.{insert}
use Rattle.std.specs.Ordering.{nat_cmp}
use Rattle.std.specs.Cmp.Lexicographic.{slice_cmp, nat_list_cmp_total}
use Rattle.std.specs.FinMap as finite_map
use Rattle.pass_registry.specs.Places.{Entries}
use Rattle.pass_registry.proofs.Ascending.{found_at, put_at}
use Rattle.pass_registry.proofs.names.put_in.Goals as goal

if_ok : {A E T : Type 0} (r : Result A E) (x y : T) → IsOk r → cond (is_ok r) x y ≡ x
if_ok (Ok a) x y ok = refl
if_ok (Err e) x y ok = absurd (cc)

pub returns-in_default-clause-items : goal.returns-in_default-clause-items
returns-in_default-clause-items c =
    let read = c.deref.ensures.value in
    let ascending = ap (λ (es : Entries). finite_map.is_sorted (slice_cmp nat_cmp) es) read ∙ c.requires.ascending in
    let found = found_at (slice_cmp nat_cmp) nat_list_cmp_total c.args.name c.deref.result.now ascending c.in_default.field-0 (c.args.name, c.args.file)
    c.in_default.ensures.within (c.in_default.ensures.place (c.args.name, c.args.file)) in
    let free = ap (λ (es : Entries). finite_map.find (slice_cmp nat_cmp) c.args.name es) read ∙ c.requires.free in
    absurd (cc (found, free))

pub returns-in-Err-clause-items : goal.returns-in-Err-clause-items
returns-in-Err-clause-items c =
    let read = c.deref.ensures.value in
    let room : vec_len c.args.entries.now < vec_capacity c.args.entries.now = c.requires.room in
    c.insert.ensures.items
    ∙ if_ok c.insert.result (insert c.args.entries.now.items c.in-Err.place (c.args.name, c.args.file)) c.args.entries.now.items (c.insert.ensures.succeeds room)
    ∙ ap (λ (es : Entries). insert es c.in-Err.place (c.args.name, c.args.file)) (sym read)
    ∙ sym (put_at (slice_cmp nat_cmp) nat_list_cmp_total c.args.name c.args.file c.deref.result.now c.in-Err.place c.in-Err.ensures.within c.in-Err.ensures.place)
    ∙ ap (λ (es : Entries). finite_map.put (slice_cmp nat_cmp) c.args.name c.args.file es) read
