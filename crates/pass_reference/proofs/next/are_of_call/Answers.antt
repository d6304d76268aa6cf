use Rattle.std.proofs.Common.{◌≡◌, ◌<◌, ℕ, length, refl, sym, true, arith, below_more, ◌∙◌, ap, ◌+◌}
use Rattle.std.proofs.lemmas.Option.{slice_get_read, slice_get_within}
use Rattle.std.specs.Prelude.{Some, slice_get}
use Rattle.pass_entry.specs.declared.entry.Entry.{Entry}
use Rattle.pass_plain.proofs.Lists.{some_is}
use Rattle.pass_reference.proofs.next.are_of_call.Goals as goal

pub returns-then-not-has_name : goal.returns-then-not-has_name
returns-then-not-has_name c =
    let at = slice_get_read c.args.made.now (length c.args.made.now) c.loop-entry.entry-index c.loop-entry-item.result refl (omega arith) c.loop-entry-item.is in
    (λ no. absurd (cc), λ all. absurd (let yes : c.has_name.result ≡ true = c.has_name.ensures.1 (all c.loop-entry.entry-index c.loop-entry-item.result at) in cc))

pub loop-entry-preserved : goal.loop-entry-preserved
loop-entry-preserved c =
    let at = slice_get_read c.args.made.now (length c.args.made.now) c.loop-entry.entry-index c.loop-entry-item.result refl (omega arith) c.loop-entry-item.is in
    let all : (j : ℕ) → j < c.loop-entry.entry-index + 1 → (s : ℕ × Entry) → slice_get c.args.made.now j ≡ Some s → s.1.call ≡ c.args.call =
    below_more _ _ (λ j short s seen. c.loop-entry.invariant j s short seen)
    (λ s seen. ap (λ (s : ℕ × Entry). s.1.call) (some_is s c.loop-entry-item.result (sym seen ∙ at)) ∙ c.has_name.ensures.0 c.if-not-has_name.false) in
    λ j s short seen. all j short s seen

pub returns : goal.returns
returns c = (λ _ j s at. c.loop-entry.invariant j s (let within = slice_get_within c.args.made.now j s at in omega (arith, within)) at, λ _. refl)
