-- Two rows of 64 slots that hold the same under each number have one map.
use Rattle.std.proofs.Common.{◌≡◌, ℕ, ◌<◌, ◌≤◌, List, length, refl, sym, ◌∙◌, Bool, true, false, arith}
use Rattle.std.proofs.lemmas.Bool.Decides.{nat_tests}
use Rattle.std.proofs.lemmas.Cmp.{nat_cmp_total}
use Rattle.std.specs.Prelude.{Option, nat_lt}
use Rattle.std.specs.FinMap as finite_map
use Rattle.std.specs.FinMap.{same_map, nat_cmp-IsAntisymmetric}
use Rattle.pass_entry.specs.Slots.{held_slots}
use Rattle.pass_entry.proofs.HeldSlots.{held_slots-past}

pub held_slots-same : {X : Type 0} (a b : List (Option X)) → length a ≡ 64 → length b ≡ 64
    → ((k : ℕ) → k < 64 → finite_map.get (held_slots a) k ≡ finite_map.get (held_slots b) k) → held_slots a ≡ held_slots b
held_slots-same a b whole_a whole_b same = same_map nat_cmp_total nat_cmp-IsAntisymmetric _ _ (λ q. at q (nat_lt q 64) refl)
  where
    at : (q : ℕ) (t : Bool) → nat_lt q 64 ≡ t → finite_map.get (held_slots a) q ≡ finite_map.get (held_slots b) q
    at q true is = same q (grind (arith, nat_tests))
    at q false is =
        let past : 64 ≤ q = grind (arith, nat_tests) in
        held_slots-past a q (omega (arith, past, whole_a)) ∙ sym (held_slots-past b q (omega (arith, past, whole_b)))
