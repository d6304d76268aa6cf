-- What the versions of a session promise.
use Rattle.std.specs.Prelude.{ℕ, List}
use Rattle.pass_entry.specs.declared.entry.Entry.{Entry}
use Rattle.pass_entry.specs.declared.record.Record.{Record}
use Rattle.pass_plain.specs.declared.start.Start.{Start}
use Rattle.pass_plain.specs.Sessions.{Session}
use Rattle.pass_plain.specs.Sound.{IsSound}
use Rattle.pass_plain.specs.Legal.{IsLegal, session_of}
use Rattle.pass_recover.specs.Starts.{IsStartOf, HasBytes}
use Rattle.pass_leaf.specs.Laws.{AreConsistent}
use Rattle.pass_past.specs.Pasts.{versions_of}

-- of a file the versions never fall, and a version that is listed twice has one content
abbrev pub AgreeingLaw : Type 0
AgreeingLaw = (session : Session) → IsSound session → (history : List Entry) → IsLegal session history → AreConsistent (versions_of session history)

-- two starts of which one list of records tells, with the bytes of one store area, allow the same histories
abbrev pub SameToldLaw : Type 0
SameToldLaw = (list : List Record) (area : List ℕ) (a b : Start) → IsStartOf list a → HasBytes list area a → IsStartOf list b → HasBytes list area b
    → (objects : ℕ) (history : List Entry) → IsLegal (session_of a objects) history → IsLegal (session_of b objects) history
