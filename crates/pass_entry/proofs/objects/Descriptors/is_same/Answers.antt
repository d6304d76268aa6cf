use Rattle.std.proofs.Common.{◌≡◌, ◌<◌, ℕ, refl, sym, ◌∙◌, ap, arith}
use Rattle.std.specs.FinMap as finite_map
use Rattle.pass_entry.specs.Slots.{held_slots}
use Rattle.pass_entry.proofs.SameSlots.{held_slots-same}
use Rattle.pass_entry.proofs.objects.Descriptors.is_same.Goals as goal

pub returns : goal.returns
returns c =
    let below : (k : ℕ) → k < 64 → finite_map.get (held_slots c.self.inside.slots) k ≡ finite_map.get (held_slots c.other.inside.slots) k =
    λ k short. ap (λ m. finite_map.get m k) c.self.view_is ∙ c.loop-fd.invariant k (omega arith) ∙ sym (ap (λ m. finite_map.get m k) c.other.view_is) in
    (λ _. sym c.self.view_is ∙ held_slots-same c.self.inside.slots c.other.inside.slots c.self.invariant c.other.invariant below ∙ c.other.view_is, λ _. refl)
