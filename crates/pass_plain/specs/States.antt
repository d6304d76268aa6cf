-- What the programs' states stand for.
use Rattle.std.specs.Prelude.{ℕ, false, ◌≡◌, ◌<◌, ◌==◌, List, [], ◌∷◌, ◌++◌, if◌then◌else◌}
use Rattle.std.specs.FinMap as finite_map
use Rattle.pass_entry.specs.declared.entry.Act.{Act}
use Rattle.pass_entry.specs.declared.entry.Act.TheVariants as act
use Rattle.pass_entry.specs.declared.entry.Reply.{Reply}
use Rattle.pass_entry.specs.declared.entry.Reply.TheVariants as answer
use Rattle.pass_entry.specs.declared.entry.CallFault.TheVariants as fault
use Rattle.pass_entry.specs.declared.objects.Kind.TheVariants as kind
use Rattle.pass_plain.specs.Replies.{minted, found, done_if, is_app_object}
use Rattle.pass_entry.specs.declared.entry.Entry.{Entry}
use Rattle.pass_plain.specs.Histories.{call_entries, is_own}
use Rattle.pass_plain.specs.Sessions.{Session}
use Rattle.pass_plain.specs.Sound.{IsSound}
use Rattle.pass_plain.specs.Processes.{Process, new_process, process_after, has_begun}
use Rattle.pass_plain.specs.Calls.{Made}
use Rattle.pass_plain.specs.Legal.{IsLegal, before_call, last_number}
use Rattle.pass_plain.specs.Registries.{Registry, registry_act}
use Rattle.pass_plain.specs.declared.registry.RegistryState.{RegistryState}

abbrev pub registry_of : RegistryState → Registry
registry_of r = record { names = r.names; objects = r.objects.items; made = r.made }

-- the registry after one more entry
abbrev pub registry_step : Registry → Entry → Registry
registry_step r e = if is_own 0 e then registry_act r e.act e.reply else r

-- the last call of a process: its number, 0 where there is none, the state before it, and the entries that it has made
pub record Call : Type 0 where
  pub number : ℕ
  pub before : Process
  pub made : Made

-- the last call after one more entry, which stands at this place and is told the process's state before it
abbrev pub noted : Call → Process → ℕ → ℕ → Entry → Call
noted call state place who e =
    if e.who == who then (if e.number == call.number then record call { made = call.made ++ (place, e) ∷ [] }
    else record { number = e.number; before = state; made = (place, e) ∷ [] })
    else call

-- the call is the process's last one in the history
pub record IsLastCall (history : List Entry) (who : ℕ) (call : Call) : Type 0 where
  pub number : call.number ≡ last_number history who
  pub before : 0 < call.number → call.before ≡ before_call history who call.number
  pub made : 0 < call.number → call.made ≡ call_entries history who call.number

-- the history has nothing of the process
pub record IsBlank (history : List Entry) (who : ℕ) : Type 0 where
  pub begun : has_begun history who ≡ false
  pub state : process_after history who ≡ new_process
  pub number : last_number history who ≡ 0

-- the history is legal in some session with a sound opening
abbrev pub IsLawful : List Entry → Type 0
IsLawful history = (session : Session) × IsSound session × IsLegal session history

-- what the registry answers to an act on it
abbrev pub registry_reply : Session → Registry → Act → Reply
registry_reply session r (act.Bind name) = if finite_map.contains_key r.names name then answer.Fault fault.Exists else minted session r kind.File
registry_reply session r (act.Find name) = found (finite_map.get r.names name)
registry_reply session r (act.Move from to) = done_if (finite_map.contains_key r.names from) fault.NoEntry
registry_reply session r (act.Unbind name) = done_if (finite_map.contains_key r.names name) fault.NoEntry
registry_reply session r (act.Mint k) = minted session r k
registry_reply session r (act.Known pnode) = if is_app_object r pnode then answer.Made pnode else answer.Fault fault.NoObject
registry_reply session r _ = answer.Done
