use Rattle.std.proofs.Common.{◌≡◌, ◌≤◌, ◌<◌, length, sym, ap, ◌∙◌, subst, arith}
use Rattle.std.specs.List.{HoldsAt}
use Rattle.std.specs.Ordering.{ordering_index}
use Rattle.std.specs.List.Sorted.{IsPartitionPoint, IsNonDecreasingBy}
use Rattle.std.specs.declared.cmp.Ordering.TheVariants.{Less, Equal, Greater}
use Rattle.pass_waldo.proofs.Sorting.{searchable, found, placed}
use Rattle.pass_waldo.proofs.sorted.put.Goals as goal

pub returns-in-Ok-clause-ok : goal.returns-in-Ok-clause-ok
returns-in-Ok-clause-ok g c =
    let same : c.as_slice.result.now ≡ c.args.row.now.items = c.as_slice.ensures.value in
    let below : c.in-Ok.field-0 < length c.args.row.now.items = (let z = c.in-Ok.ensures.bound in let y = ap length same in omega (arith, z, y)) in
    sym (found g.met.T.Ord.total c.args.row.now.items c.args.value c.requires c.in-Ok.field-0 below
    (subst (λ xs. HoldsAt (λ y. g.T.Ord.cmp y c.args.value ≡ Equal) xs c.in-Ok.field-0) same c.in-Ok.ensures.ok))

pub returns-in_ok-insert-in-Err-clause-ok : goal.returns-in_ok-insert-in-Err-clause-ok
returns-in_ok-insert-in-Err-clause-ok g c =
    let same : c.as_slice.result.now ≡ c.args.row.now.items = c.as_slice.ensures.value in
    let most : c.in-Err.place ≤ length c.args.row.now.items = (let z = c.in-Err.ensures.bound in let y = ap length same in omega (arith, z, y)) in
    let parts = subst (λ xs. IsNonDecreasingBy (λ y. ordering_index (g.T.Ord.cmp y c.args.value)) xs → IsPartitionPoint (λ y. g.T.Ord.cmp y c.args.value ≡ Less) (λ y. g.T.Ord.cmp y c.args.value ≡ Greater) xs c.in-Err.place) same c.in-Err.ensures.position
    (searchable g.met.T.Ord.total c.args.row.now.items c.args.value c.requires) in
    c.in_ok-insert-in-Err.ensures.items ∙ sym (placed g.met.T.Ord.total c.args.row.now.items c.args.value c.in-Err.place most parts.0 parts.1)
