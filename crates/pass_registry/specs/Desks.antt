-- What contracts see of a registry under its lock, and the entries on it.
use Rattle.std.specs.Prelude.{ℕ, ◌≡◌, ◌≤◌, ◌+◌, ◌==◌, false, List}
use Rattle.std.specs.List.{list_any}
use Rattle.pass_entry.specs.declared.entry.Act.{Act}
use Rattle.pass_entry.specs.declared.entry.Act.TheVariants as act
use Rattle.pass_entry.specs.declared.entry.CallName.{CallName}
use Rattle.pass_entry.specs.declared.entry.CallName.TheVariants as calls
use Rattle.pass_entry.specs.declared.entry.Entry.{Entry}
use Rattle.pass_entry.specs.declared.entry.Reply.{Reply}
use Rattle.pass_entry.specs.declared.entry.Reply.TheVariants as answer
use Rattle.pass_entry.specs.declared.objects.Kind.{Kind}
use Rattle.pass_entry.specs.declared.objects.Kind.TheVariants as kind
use Rattle.pass_plain.specs.Registries.{Exists, next_pnode, registry_after}
use Rattle.pass_plain.specs.Sessions.{Session}

-- what was seen of the registry, and for how many more names there is room
pub record RegistryView : Type 0 where
  pub seen : List Entry
  pub room : ℕ

-- an entry on the registry, whose number is 0
abbrev pub on_registry : ℕ → ℕ → CallName → Act → Reply → Entry
on_registry who number call a reply = record { who = who; number = number; call = call; what = 0; act = a; reply = reply }

-- the two names of a renaming
pub record Renaming : Type 0 where
  pub from : List ℕ
  pub to : List ℕ

-- a new object: its number is the next one above the opening's ceiling, and one of those that the session may give; no object had it
-- before the entry, and it has this kind after it
pub record IsMade (session : Session) (before after : List Entry) (pnode : ℕ) (k : Kind) : Type 0 where
  pub next : pnode ≡ next_pnode session (registry_after session before)
  pub within : pnode ≤ session.start.ceiling + session.objects
  pub single : list_any (λ o. o.0 == pnode) (registry_after session before).objects ≡ false
  pub has : Exists (registry_after session after) pnode k

-- the first entry of a session, by which the outside makes its first process
abbrev pub first_entry : ℕ → Entry
first_entry pnode = on_registry 0 0 calls.Start (act.Mint kind.Process) (answer.Made pnode)
