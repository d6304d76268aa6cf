-- The objects that a call names by descriptors.
use Rattle.std.proofs.Common.{◌≡◌, ℕ, refl, ap, sym, ◌∙◌, Bool, true, false, ◌&&◌, ◌||◌, ◌+◌}
use Rattle.std.specs.Prelude.{Option, Some, None, nat_lt, not}
use Rattle.std.specs.Option.{option_map_or}
use Rattle.std.specs.FinMap as finite_map
use Rattle.std.proofs.lemmas.Bool.{and_parts}
use Rattle.pass_entry.specs.Limits.{file_limit}
use Rattle.pass_entry.specs.declared.entry.Ask.TheVariants as ask
use Rattle.pass_entry.specs.declared.entry.CallFault.{CallFault}
use Rattle.pass_entry.specs.declared.entry.CallFault.TheVariants as fault
use Rattle.pass_entry.specs.declared.objects.Descriptor.{Descriptor}
use Rattle.pass_entry.specs.declared.objects.Kind.{Kind}
use Rattle.pass_entry.specs.declared.objects.Kind.TheVariants as kind
use Rattle.pass_entry.specs.declared.objects.Mode.TheVariants as mode
use Rattle.pass_entry.proofs.Variants.{some_of}
use Rattle.pass_plain.specs.Calls.{descriptor_at, no_descriptor}
use Rattle.pass_plain.specs.Processes.{Process, faults_if, is_app, is_file, is_held, refusal, same_mode}
use Rattle.pass_plain.specs.Registries.{same_kind}

no_fault : (b : Bool) → faults_if (not b) fault.BadFd None ≡ None → b ≡ true
no_fault true fine = refl
no_fault false fine = absurd (cc)

-- what is held where a call is not refused
pub one_held : (p : Process) (fd : ℕ) → refusal p (ask.Held fd) ≡ None → is_held p fd ≡ true
one_held p fd fine = no_fault (is_held p fd) fine

pub two_held : (p : Process) (first second : ℕ) → refusal p (ask.HeldTwo first second) ≡ None → (is_held p first ≡ true) × (is_held p second ≡ true)
two_held p first second fine = and_parts (is_held p first) (is_held p second) (no_fault (is_held p first && is_held p second) fine)

pub held_at : (p : Process) (fd : ℕ) → is_held p fd ≡ true → (d : Descriptor) × (finite_map.get p.descriptors fd ≡ Some d)
held_at p fd held = some_of (finite_map.get p.descriptors fd) held

held_if : (o : Option Descriptor) (judge : Descriptor → Option CallFault) → option_map_or judge o (Some fault.BadFd) ≡ None → (d : Descriptor) × (o ≡ Some d)
held_if None judge fine = absurd (cc)
held_if (Some d) judge fine = (d, refl)

pub read_at : (p : Process) (fd : ℕ) → refusal p (ask.ToRead fd) ≡ None → (d : Descriptor) × (finite_map.get p.descriptors fd ≡ Some d)
read_at p fd fine = held_if (finite_map.get p.descriptors fd) (λ d. faults_if (is_app d || same_mode d.mode mode.Write) fault.BadMode None) fine

pub write_at : (p : Process) (fd len : ℕ) → refusal p (ask.ToWrite fd len) ≡ None → (d : Descriptor) × (finite_map.get p.descriptors fd ≡ Some d)
write_at p fd len fine =
    held_if (finite_map.get p.descriptors fd)
    (λ d. faults_if (is_app d || same_mode d.mode mode.Read) fault.BadMode (faults_if (is_file d && nat_lt file_limit (d.offset + len)) fault.TooBig None)) fine

pub at_descriptor : (p : Process) (fd : ℕ) (d : Descriptor) → finite_map.get p.descriptors fd ≡ Some d → descriptor_at p fd ≡ d
at_descriptor p fd d at = ap (λ o. option_map_or (λ d. d) o no_descriptor) at

-- the object of a held descriptor
pub its_object : (p : Process) (fd what : ℕ) → is_held p fd ≡ true → ((d : Descriptor) → finite_map.get p.descriptors fd ≡ Some d → what ≡ d.pnode)
    → (descriptor_at p fd).pnode ≡ what
its_object p fd what held named = let (d, at) = held_at p fd held in ap (λ (d : Descriptor). d.pnode) (at_descriptor p fd d at) ∙ sym (named d at)

pub pipe_no_file : (k : Kind) → same_kind k kind.Pipe ≡ true → same_kind k kind.File ≡ false
pipe_no_file kind.Pipe is = refl
pipe_no_file _ is = absurd (cc)
