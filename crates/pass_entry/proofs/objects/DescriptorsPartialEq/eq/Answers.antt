-- The rows of the maps are the slots that are compared.
use Rattle.pass_entry.proofs.HeldSlots.{slots_of-held_slots}
use Rattle.pass_entry.proofs.objects.DescriptorsPartialEq.eq.Goals as goal

pub returns : goal.returns
returns c =
    rw (← c.self.view_is) (rw (← c.other.view_is)
    (rw (slots_of-held_slots c.self.inside.slots c.self.invariant) (rw (slots_of-held_slots c.other.inside.slots c.other.invariant) c.eq.ensures)))
