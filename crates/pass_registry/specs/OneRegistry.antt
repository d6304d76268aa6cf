-- What the registry's own calls and a whole history have to do with each other. 0 is the registry's number.
use Rattle.std.specs.Prelude.{◌≡◌, ◌==◌, true, false, List, [], ◌∷◌, ◌++◌}
use Rattle.pass_entry.specs.declared.entry.Entry.{Entry}
use Rattle.pass_plain.specs.Histories.{is_fault}
use Rattle.pass_plain.specs.Sessions.{Session}
use Rattle.pass_plain.specs.Registries.{opening_registry, registry_act, registry_after}

abbrev pub BeginLaw : Type 0
BeginLaw = (session : Session) → registry_after session [] ≡ opening_registry session.start

-- an entry on the registry that is no fault makes of it what its act and reply do
abbrev pub StepLaw : Type 0
StepLaw = (session : Session) (history : List Entry) (e : Entry) → e.what ≡ 0 → is_fault e.reply ≡ false
    → registry_after session (history ++ e ∷ []) ≡ registry_act (registry_after session history) e.act e.reply

-- a fault leaves the registry
abbrev pub FaultLaw : Type 0
FaultLaw = (session : Session) (history : List Entry) (e : Entry) → is_fault e.reply ≡ true
    → registry_after session (history ++ e ∷ []) ≡ registry_after session history

-- entries on other objects leave the registry
abbrev pub OthersLaw : Type 0
OthersLaw = (session : Session) (history : List Entry) (e : Entry) → (e.what == 0) ≡ false
    → registry_after session (history ++ e ∷ []) ≡ registry_after session history
