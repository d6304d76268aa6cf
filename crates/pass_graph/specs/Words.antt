-- Versions, marks and freezes in words over the places of a history. The marking rule is this project's own.
use Rattle.std.specs.Prelude.{ℕ, ◌+◌, ◌≡◌, ◌<◌, ◌==◌, zero, suc, Bool, true, false, ◌&&◌, List, Some, take, slice_get, ◌⊎◌, ◌↔◌, if◌then◌else◌}
use Rattle.std.specs.Option.{option_map_or}
use Rattle.pass_entry.specs.declared.entry.Entry.{Entry}
use Rattle.pass_entry.specs.declared.entry.Act.TheVariants as act
use Rattle.pass_entry.specs.declared.objects.Node.{Node}
use Rattle.pass_plain.specs.Histories.{is_fault}
use Rattle.pass_plain.specs.Sessions.{Session, is_opened, opening_version}
use Rattle.pass_plain.specs.Legal.{IsLegal}
use Rattle.pass_plain.specs.Versions.{is_exec, version_after, marked_after}
use Rattle.pass_graph.specs.Places.{object_at, node_at, out_at, source_at, is_out_at, is_in_at, is_fresh_at, is_freeze_at}

-- the entry at the place freezes this object
abbrev pub freezes_at : Session → List Entry → ℕ → ℕ → Bool
freezes_at session history object place = is_freeze_at session history place && option_map_or (λ o. o == object) (object_at history place) false

-- how many of the first entries freeze the object
abbrev pub count_freezes : Session → List Entry → ℕ → ℕ → ℕ
count_freezes session history object zero = 0
count_freezes session history object (suc place) =
    if freezes_at session history object place then suc (count_freezes session history object place) else count_freezes session history object place

-- no freeze of the object stands before the place, or between two places
abbrev pub NoFreezeBefore : Session → List Entry → ℕ → ℕ → Type 0
NoFreezeBefore session history object place =
    (k : ℕ) → k < place → object_at history k ≡ Some object → is_freeze_at session history k ≡ false

abbrev pub NoFreezeBetween : Session → List Entry → ℕ → ℕ → ℕ → Type 0
NoFreezeBetween session history object first place =
    (k : ℕ) → first < k → k < place → object_at history k ≡ Some object → is_freeze_at session history k ≡ false

-- an OUT of the object stands before the place and after the object's last freeze before the place
pub record IsUsedBefore (session : Session) (history : List Entry) (object place : ℕ) : Type 0 where
  pub out : ℕ
  pub stands : out < place
  pub is_out : is_out_at history out ≡ true
  pub on : object_at history out ≡ Some object
  pub since : NoFreezeBetween session history object out place

-- the object's version is marked: it was used, or the object is of the opening and was not frozen
abbrev pub IsMarkedBefore : Session → List Entry → ℕ → ℕ → Type 0
IsMarkedBefore session history object place =
    IsUsedBefore session history object place ⊎ ((is_opened session.start object ≡ true) × NoFreezeBefore session history object place)

-- an IN of the object from the source stands before the place, at the object's last freeze before the place or after it
pub record HasTaken (session : Session) (history : List Entry) (object place : ℕ) (source : Node) : Type 0 where
  pub into : ℕ
  pub stands : into < place
  pub is_in : is_in_at history into ≡ true
  pub on : object_at history into ≡ Some object
  pub from : source_at session history into ≡ Some source
  pub since : NoFreezeBetween session history object into place

-- what the entry at a place is, and what it makes of the versions
pub record IsInWords (session : Session) (history : List Entry) (place : ℕ) (e : Entry) : Type 0 where
  -- an object's version is the one of the opening, or 1 for a new object, and one more for each of its freezes
  pub version : (object : ℕ) → version_after session (take (suc place) history) object ≡ opening_version session.start object + count_freezes session history object (suc place)
  -- the entry's node is its object with the version at its place
  pub node : node_at session history place ≡ Some (record { pnode = e.what; version = version_after session (take (suc place) history) e.what })
  -- an IN takes from the node of its OUT
  pub source : (out : ℕ) → out_at history place ≡ Some out → source_at session history place ≡ node_at session history out
  -- an object's version is marked before the place
  pub marked : (object : ℕ) → (marked_after session (take place history) object ≡ true) ↔ IsMarkedBefore session history object place
  -- an IN is fresh where it is an exec's, or its target has not taken from the same node since its last freeze
  pub fresh : (is_fresh_at session history place ≡ true)
      ↔ ((is_in_at history place ≡ true) × ((is_exec e.act ≡ true) ⊎ ((source : Node) → source_at session history place ≡ Some source → ¬ (HasTaken session history e.what place source))))
  -- a freeze is a `Freeze`, an `Exec`, or a fresh IN on a version that is marked before it
  pub freezes : (is_freeze_at session history place ≡ true)
      ↔ ((is_fault e.reply ≡ false)
      × ((e.act ≡ act.Freeze) ⊎ ((is_exec e.act ≡ true) ⊎ ((is_fresh_at session history place ≡ true) × IsMarkedBefore session history e.what place))))

-- versions, marks and freezes mean what these words say
abbrev pub WordsLaw : Type 0
WordsLaw = (session : Session) (history : List Entry) → IsLegal session history → (place : ℕ) (e : Entry) → slice_get history place ≡ Some e → IsInWords session history place e
