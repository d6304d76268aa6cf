-- The versions of the plain definitions are those that one object's own steps make.
use Rattle.std.specs.Prelude.{ℕ, ◌==◌, ◌≡◌, true, false, not, ◌&&◌, List, ◌∷◌, ◌++◌, [], Some, None}
use Rattle.pass_entry.specs.declared.entry.Entry.{Entry}
use Rattle.pass_entry.specs.declared.entry.Act.TheVariants as act
use Rattle.pass_entry.specs.declared.objects.Node.{Node}
use Rattle.pass_plain.specs.Histories.{is_fault, is_out}
use Rattle.pass_plain.specs.Sessions.{Session, is_opened, opening_version}
use Rattle.pass_plain.specs.Legal.{IsLegal, MayFollow}
use Rattle.pass_plain.specs.Versions.{nodes_of, source_in, is_fresh, is_freeze, is_exec, always_freezes}
use Rattle.pass_plain.specs.Lineages.{Lineage, has, used, frozen, linked, with_source}
use Rattle.pass_version.specs.States.{IsStateAfter}

-- what an entry makes of the lineage `l` that its object had before it
pub record IsOneStep (session : Session) (history : List Entry) (e : Entry) (l : Lineage) : Type 0 where
  -- an OUT marks
  pub marks : is_out e ≡ true → IsStateAfter session (history ++ e ∷ []) (used l)
  -- a freeze that is asked for
  pub freezes : e.act ≡ act.Freeze → is_fault e.reply ≡ false → IsStateAfter session (history ++ e ∷ []) (frozen l)
  -- an IN from a node that is no exec: it is fresh where the node is no ancestor yet, and then freezes a marked version
  pub takes : (source : Node) → source_in (nodes_of session history) e ≡ Some source → is_exec e.act ≡ false
      → IsStateAfter session (history ++ e ∷ []) (linked l source)
      × (is_fresh session history (nodes_of session history) e ≡ not (has l source))
      × (is_freeze session history (nodes_of session history) e ≡ not (has l source) && l.marked)
  -- an exec freezes once and takes from its program
  pub execs : (source : Node) → source_in (nodes_of session history) e ≡ Some source → is_exec e.act ≡ true
      → IsStateAfter session (history ++ e ∷ []) (with_source (frozen l) source)
  -- any other entry changes nothing
  pub stays : is_out e ≡ false → always_freezes e.act && not (is_fault e.reply) ≡ false → source_in (nodes_of session history) e ≡ None
      → IsStateAfter session (history ++ e ∷ []) l

-- an object begins with its opening version, marked where it is of the opening, and with no ancestors
abbrev pub OpeningLaw : Type 0
OpeningLaw = (session : Session) (object : ℕ)
    → IsStateAfter session [] (record { node = record { pnode = object; version = opening_version session.start object }; marked = is_opened session.start object; sources = [] })

abbrev pub StepLaw : Type 0
StepLaw = (session : Session) (history : List Entry) (e : Entry) (l : Lineage) → IsLegal session history → MayFollow session history e
    → e.what ≡ l.node.pnode → IsStateAfter session history l → IsOneStep session history e l

-- entries on other objects leave the state
abbrev pub OthersLaw : Type 0
OthersLaw = (session : Session) (history : List Entry) (e : Entry) (l : Lineage) → IsLegal session history → MayFollow session history e
    → (e.what == l.node.pnode) ≡ false → IsStateAfter session history l → IsStateAfter session (history ++ e ∷ []) l
