-- What contracts see of a registry.
use Rattle.std.specs.Prelude.{ℕ, ◌+◌, ◌≡◌, ◌≤◌, ◌<◌, Bool, ◌&&◌, ◌||◌, List, Some, slice_get, nat_le}
use Rattle.pass_entry.specs.declared.entry.Act.{Act}
use Rattle.pass_entry.specs.declared.entry.Reply.{Reply}
use Rattle.pass_entry.specs.declared.objects.Kind.{Kind}
use Rattle.pass_entry.specs.Limits.{kind_limit, number_limit}
use Rattle.pass_plain.specs.declared.start.Start.{Start}
use Rattle.pass_plain.specs.Sessions.{Session}
use Rattle.pass_plain.specs.Registries.{Registry, opening_registry, registry_act, is_limited, count_of_kind}

-- the names and objects, the ceiling with which the session began, how many objects it may make, and for how many more names
-- there is room
pub record RegistryState : Type 0 where
  pub registry : Registry
  pub ceiling : ℕ
  pub limit : ℕ
  pub room : ℕ

abbrev pub opened : Start → ℕ → RegistryState
opened start objects = record { registry = opening_registry start; ceiling = start.ceiling; limit = objects; room = 0 }

-- the registry is one of this session
abbrev pub IsOf : Session → RegistryState → Type 0
IsOf session r = (session.start.ceiling ≡ r.ceiling) × (session.objects ≡ r.limit)

-- no object of this kind may be made any more: the session made as many as it may, or the store has 1,024 files or app objects
abbrev pub is_full : RegistryState → Kind → Bool
is_full r k = nat_le r.limit r.registry.made || (is_limited k && nat_le kind_limit (count_of_kind k r.registry))

-- the number of the next object
abbrev pub next_pnode : RegistryState → ℕ
next_pnode r = r.ceiling + r.registry.made + 1

-- the registry after an entry with this act and reply
abbrev pub with_act : RegistryState → Act → Reply → RegistryState
with_act r a reply = record r { registry = registry_act r.registry a reply }

-- what a registry keeps to: the objects' numbers are at most that of the last one made, and there is room for those to come
pub record IsSession (objects : List (ℕ × Kind)) (room ceiling limit made : ℕ) : Type 0 where
  pub below : (i : ℕ) (o : ℕ × Kind) → slice_get objects i ≡ Some o → o.0 ≤ ceiling + made
  pub within : made ≤ limit
  pub reserved : limit ≤ room + made
  pub numbers : ceiling + limit < number_limit
