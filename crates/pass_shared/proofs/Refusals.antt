-- What each call asks of its process.
use Rattle.std.proofs.Common.{◌≡◌, ℕ, ◌<◌, ◌≤◌, List, length, refl, ap, subst, sym, ◌∙◌, true, ◌&&◌}
use Rattle.std.specs.Prelude.{Option, Some, None, nat_le}
use Rattle.std.proofs.lemmas.Bool.{le-leb}
use Rattle.pass_entry.specs.Limits.{transfer_limit}
use Rattle.pass_entry.specs.Texts.{is_name}
use Rattle.pass_entry.specs.declared.entry.Ask.TheVariants as ask
use Rattle.pass_entry.specs.declared.entry.CallName.TheVariants as calls
use Rattle.pass_entry.specs.declared.objects.Descriptor.{Descriptor}
use Rattle.pass_plain.specs.declared.request.Request.TheVariants as requests
use Rattle.pass_plain.specs.Calls.{is_fd, is_within}
use Rattle.pass_plain.specs.Processes.{Process, is_file, is_held, refusal}
use Rattle.pass_plain.proofs.Lists.{both_true, some_is}
use Rattle.pass_proc.specs.CallEnds.{Asks}
use Rattle.pass_proc.proofs.Steps.{low_fd}
use Rattle.pass_answer.proofs.Naming.{two_held}
use Rattle.pass_calls.proofs.PipeWrites.{write_within}
use Rattle.pass_file.specs.Desks.{FileDeskView}
use Rattle.pass_slots.specs.Slots.{HasObject}
use Rattle.pass_slots.specs.declared.slot.Slot.{Slot}
use Rattle.pass_slots.specs.declared.slot.Slot.TheVariants as slots

pub read_within : (fd len : ℕ) → fd < 64 → (1 ≤ len) × (len ≤ transfer_limit) → is_within (requests.Read fd len) ≡ true
read_within fd len low (least, most) = both_true (is_fd fd && nat_le 1 len) (nat_le len transfer_limit) (both_true (is_fd fd) (nat_le 1 len) (low_fd fd low) (le-leb 1 len least)) (le-leb len transfer_limit most)

pub tag_within : (fd : ℕ) (attr value : List ℕ) → fd < 64 → (is_name attr ≡ true) × (is_name value ≡ true) → is_within (requests.TagObj fd attr value) ≡ true
tag_within fd attr value low (named, valued) = both_true (is_fd fd && is_name attr) (is_name value) (both_true (is_fd fd) (is_name attr) (low_fd fd low) named) valued

pub disclose_within : (fd source : ℕ) → (fd < 64) × (source < 64) → is_within (requests.Disclose fd source) ≡ true
disclose_within fd source (low, also) = both_true (is_fd fd) (is_fd source) (low_fd fd low) (low_fd source also)

-- what each asks
pub read_asks : (fd len : ℕ) → fd < 64 → (1 ≤ len) × (len ≤ transfer_limit) → Asks calls.Read (ask.ToRead fd)
read_asks fd len low few = record { request = requests.Read fd len; named = refl; asked = refl; within = read_within fd len low few }

pub write_asks : (fd : ℕ) (bytes : List ℕ) → fd < 64 → length bytes ≤ transfer_limit → Asks calls.Write (ask.ToWrite fd (length bytes))
write_asks fd bytes low few = record { request = requests.Write fd bytes; named = refl; asked = refl; within = write_within fd bytes low few }

pub cut_asks : (fd size : ℕ) → fd < 64 → Asks calls.Truncate (ask.ToCut fd size)
cut_asks fd size low = record { request = requests.Truncate fd size; named = refl; asked = refl; within = low_fd fd low }

pub freeze_asks : (fd : ℕ) → fd < 64 → Asks calls.FreezeObj (ask.Held fd)
freeze_asks fd low = record { request = requests.FreezeObj fd; named = refl; asked = refl; within = low_fd fd low }

pub tag_asks : (fd : ℕ) (attr value : List ℕ) → fd < 64 → (is_name attr ≡ true) × (is_name value ≡ true) → Asks calls.TagObj (ask.Held fd)
tag_asks fd attr value low names = record { request = requests.TagObj fd attr value; named = refl; asked = refl; within = tag_within fd attr value low names }

pub disclose_asks : (fd source : ℕ) → (fd < 64) × (source < 64) → Asks calls.Disclose (ask.HeldTwo fd source)
disclose_asks fd source low = record { request = requests.Disclose fd source; named = refl; asked = refl; within = disclose_within fd source low }

-- and what the process holds where it does not refuse
pub second_held : (p : Process) (fd source : ℕ) → refusal p (ask.HeldTwo fd source) ≡ None → is_held p source ≡ true
second_held p fd source fine = (two_held p fd source fine).1

-- the file of a held descriptor, found in its lock, is that of what the process holds under the number; `now` is the file with memory reserved
pub file_held : {J : Type 0} {s : Slot J} {f : FileDeskView} → s ≡ slots.File f → (d : Descriptor) → HasObject s d → {held : Option Descriptor} → held ≡ Some d
    → {now : FileDeskView} → now ≡ record f { spare = now.spare; room = now.room } → (e : Descriptor) → held ≡ Some e → (is_file e ≡ true) × (now.what ≡ e.pnode)
file_held is d has at {now = now} same e also =
    let its = subst (λ s. HasObject s d) is has in
    subst (λ (x : Descriptor). (is_file x ≡ true) × (now.what ≡ x.pnode)) (some_is d e (sym at ∙ also)) (its.0, ap (λ (f : FileDeskView). f.what) same ∙ its.1)
