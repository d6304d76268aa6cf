-- What an await, a wait by which no data flows, leaves as it was. This project's own rule.
use Rattle.std.specs.Prelude.{ℕ, ◌≡◌, true, false, List, [], ◌∷◌, ◌++◌, None}
use Rattle.pass_entry.specs.declared.entry.Act.TheVariants as act
use Rattle.pass_entry.specs.declared.entry.CallName.TheVariants as call
use Rattle.pass_entry.specs.declared.entry.Entry.{Entry}
use Rattle.pass_plain.specs.Histories.{is_out, source_place}
use Rattle.pass_plain.specs.Legal.{IsLegal, MayFollow}
use Rattle.pass_plain.specs.Lineages.{IsAlike, lineage_after}
use Rattle.pass_plain.specs.Processes.{has_ended}
use Rattle.pass_plain.specs.Records.{entry_records}
use Rattle.pass_plain.specs.Sessions.{Session}

-- the entry uses no object as a source, takes from none and has no records; each object keeps its version, its mark and its sources
pub record HasNoFlow (session : Session) (history : List Entry) (e : Entry) : Type 0 where
  pub no_use : is_out e ≡ false
  pub no_source : source_place e ≡ None
  pub no_records : entry_records session history e ≡ []
  pub stays : (object : ℕ) → IsAlike (lineage_after session (history ++ e ∷ []) object) (lineage_after session history object)

-- no data flows by an entry of an await
abbrev pub NoFlowLaw : Type 0
NoFlowLaw = (session : Session) (history : List Entry) (e : Entry) → IsLegal session history → MayFollow session history e → e.call ≡ call.Await
    → HasNoFlow session history e

-- a child that its parent lets go has ended
abbrev pub ReleaseLaw : Type 0
ReleaseLaw = (session : Session) (history : List Entry) (e : Entry) (child : ℕ) → IsLegal session history → MayFollow session history e → e.act ≡ act.Release child
    → has_ended history child ≡ true
