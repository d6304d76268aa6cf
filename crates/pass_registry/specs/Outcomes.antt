-- What the calls of a registry answer, and the replies that their answers stand for.
use Rattle.std.specs.Prelude.{ℕ, List, Option, Result, Ok, Err, if◌then◌else◌}
use Rattle.std.specs.FinMap as finite_map
use Rattle.pass_entry.specs.declared.entry.CallFault.{CallFault}
use Rattle.pass_entry.specs.declared.entry.CallFault.TheVariants as fault
use Rattle.pass_entry.specs.declared.entry.Reply.{Reply}
use Rattle.pass_entry.specs.declared.entry.Reply.TheVariants as answer
use Rattle.pass_entry.specs.declared.objects.Kind.{Kind}
use Rattle.pass_plain.specs.Registries.{Names}
use Rattle.pass_registry.specs.States.{RegistryState, is_full, next_pnode}

-- a new object's number, or that there are too many
abbrev pub minted : RegistryState → Kind → Result ℕ CallFault
minted r k = if is_full r k then Err fault.TooMany else Ok (next_pnode r)

-- the file that has the second name and isn't the one that gives up the first
abbrev pub displaced : Names → List ℕ → List ℕ → Option ℕ
displaced names from to = finite_map.get (finite_map.remove names from) to

-- the reply of an answer that is an object's number
abbrev pub reply_made : Result ℕ CallFault → Reply
reply_made (Ok pnode) = answer.Made pnode
reply_made (Err f) = answer.Fault f

-- the reply of an answer that says no more than that it was done
abbrev pub reply_done : {T : Type 0} → Result T CallFault → Reply
reply_done (Ok done) = answer.Done
reply_done (Err f) = answer.Fault f
