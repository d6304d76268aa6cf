use Rattle.std.proofs.Common.{◌≡◌, ◌+◌, ◌<◌, ◌∙◌, ℕ, suc, [], List, length, set, ap, arith}
use Rattle.std.proofs.Math.Nat.{le-max_right}
use Rattle.std.proofs.lemmas.List.{length-set}
use Rattle.pass_entry.specs.declared.record.Record.{Record}
use Rattle.pass_book.specs.Shedding.{shed}
use Rattle.pass_book.proofs.Shedding.{length-shed, set-shed}
use Rattle.pass_book.proofs.book.shed_slips.Goals as goal

pub loop-place-preserved : goal.loop-place-preserved
loop-place-preserved c =
    let place = c.loop-place.place in
    let slips = c.loop-place.slips.items in
    let k = c.loop-place.invariant in
    let e = c.empty_slip.ensures in
    let lt : place < c.args.upto = c.loop-place-test.true in
    let most = le-max_right c.args.from c.args.upto in
    let within = c.requires in
    let long = k.length in
    record {
      below = omega (arith, lt, most);
      length = ap length e.slips ∙ length-set slips place [] ∙ k.length;
      slips = λ lists is.
          let before = k.slips lists is in
          let same = ap length before ∙ length-shed place lists in
          let next : suc place ≡ place + 1 = omega arith in
          e.slips ∙ ap (λ (ls : List (List Record)). set ls place []) before ∙ set-shed place lists (omega (arith, lt, within, long, same)) ∙ ap (λ (n : ℕ). shed n lists) next;
      capacity = e.capacity ∙ k.capacity;
    }
