-- What is known of a pattern when its text was read up to a place.
use Rattle.std.specs.Prelude.{ℕ, ◌≡◌, ◌==◌, Bool, true, false, List, [], ◌∷◌, ◌++◌, length, map, reverse, Option, Some, None, option_map, Result, Ok, Err, nat_le, if◌then◌else◌}
use Rattle.pass_entry.specs.Texts.{is_name, is_name_byte}
use Rattle.pass_pattern.specs.declared.pattern.EdgeTest.{EdgeTest}
use Rattle.pass_pattern.specs.declared.pattern.Pattern.{Pattern}
use Rattle.pass_pattern.specs.declared.reader.Mark.{Mark}
use Rattle.pass_pattern.specs.declared.reader.Mark.TheVariants as mark
use Rattle.pass_pattern.specs.declared.reader.Frame.{Frame}
use Rattle.pass_pattern.specs.declared.reader.Place.{Place}
use Rattle.pass_pattern.specs.declared.reader.Place.TheVariants as place
use Rattle.pass_pattern.specs.declared.reader.Reader.{Reader}
use Rattle.pass_pattern.specs.declared.reader.Refusal.{Refusal}
use Rattle.pass_pattern.specs.declared.fault.PatternFault.{PatternFault}
use Rattle.pass_pattern.specs.declared.fault.PatternFault.TheVariants as fault
use Rattle.pass_pattern.specs.declared.reader.Refusal.TheVariants.{Bad, Deep, NoMemory}
use Rattle.pass_pattern.specs.Marks.{mark_of}
use Rattle.pass_pattern.specs.Patterns.{Shape, shape_of}
use Rattle.pass_pattern.specs.Patterns.Shape.{One, Then, Or, Many}

-- the alternatives and the steps that stand between a parenthesis and a place
pub record Level : Type 0 where
  pub alternatives : Option Shape
  pub steps : Option Shape

-- what was read last
pub data Last : Type 0 where
  Nothing : Last
  Letter : EdgeTest → Last
  Name : EdgeTest → List ℕ → Last
  Atom : Shape → Last
  Starred : Shape → Last

-- what was read, with the levels outside the open parentheses, the innermost first
pub record State : Type 0 where
  pub last : Last
  pub level : Level
  pub outer : List Level

abbrev pub joined_shape : Option Shape → Shape → Shape
joined_shape None step = step
joined_shape (Some steps) step = Then steps step

abbrev pub either_shape : Option Shape → Shape → Shape
either_shape None last = last
either_shape (Some alternatives) last = Or alternatives last

-- all of the level, of which the step is the last
abbrev pub whole_shape : Level → Shape → Shape
whole_shape level step = either_shape level.alternatives (joined_shape level.steps step)

abbrev pub fresh : Level
fresh = record { alternatives = None; steps = None }

abbrev pub state : Last → Level → List Level → State
state last level outer = record { last = last; level = level; outer = outer }

-- a parenthesis closes a level
abbrev pub closed : List Level → Shape → Option State
closed [] group = None
closed (level ∷ outer) group = Some (state (Atom group) level outer)

abbrev pub behind_step : Shape → Level → List Level → Mark → Option State
behind_step step level outer mark.Slash = Some (state Nothing (record { alternatives = level.alternatives; steps = Some (joined_shape level.steps step) }) outer)
behind_step step level outer mark.Bar = Some (state Nothing (record { alternatives = Some (whole_shape level step); steps = None }) outer)
behind_step step level outer mark.Close = closed outer (whole_shape level step)
behind_step step level outer _ = None

abbrev pub behind_atom : Shape → Level → List Level → Mark → Option State
behind_atom atom level outer mark.Star = Some (state (Starred (Many atom)) level outer)
behind_atom atom level outer m = behind_step atom level outer m

abbrev pub behind_letter : EdgeTest → Level → List Level → Mark → Option State
behind_letter edge level outer mark.Brace = Some (state (Name edge []) level outer)
behind_letter edge level outer m = behind_atom (One edge None) level outer m

abbrev pub in_name : EdgeTest → List ℕ → Level → List Level → ℕ → Option State
in_name edge name level outer byte =
    if byte == 125 then (if is_name name then Some (state (Atom (One edge (Some name))) level outer) else None)
    else (if is_name_byte byte then Some (state (Name edge (name ++ byte ∷ [])) level outer) else None)

abbrev pub begun : Level → List Level → Mark → Option State
begun level outer (mark.Letter edge) = Some (state (Letter edge) level outer)
begun level outer mark.Open = Some (state Nothing fresh (level ∷ outer))
begun level outer _ = None

-- what is known behind one more byte; none where no pattern goes on so
abbrev pub read_on : Last → Level → List Level → ℕ → Option State
read_on Nothing level outer byte = begun level outer (mark_of byte)
read_on (Letter edge) level outer byte = behind_letter edge level outer (mark_of byte)
read_on (Name edge name) level outer byte = in_name edge name level outer byte
read_on (Atom atom) level outer byte = behind_atom atom level outer (mark_of byte)
read_on (Starred step) level outer byte = behind_step step level outer (mark_of byte)

abbrev pub read_byte : State → ℕ → Option State
read_byte s byte = read_on s.last s.level s.outer byte

-- the step that was read last, if it is whole
abbrev pub step_of : Last → Option Shape
step_of Nothing = None
step_of (Letter edge) = Some (One edge None)
step_of (Name edge name) = None
step_of (Atom atom) = Some atom
step_of (Starred step) = Some step

-- what was read, where no parenthesis is open
abbrev pub whole_of : List Level → Option Shape → Option Shape
whole_of [] whole = whole
whole_of (level ∷ outer) whole = None

-- the pattern that was read, if it is whole
abbrev pub pattern_of : State → Option Shape
pattern_of s = whole_of s.outer (option_map (whole_shape s.level) (step_of s.last))

abbrev pub level_of : Frame → Level
level_of frame = record { alternatives = option_map shape_of frame.alternatives; steps = option_map shape_of frame.steps }

abbrev pub last_of : Place → Last
last_of place.Start = Nothing
last_of (place.Letter edge) = Letter edge
last_of (place.Name edge name) = Name edge name.items
last_of (place.Atom atom) = Atom (shape_of atom)
last_of (place.Starred step) = Starred (shape_of step)

abbrev pub levels_of : List Frame → List Level
levels_of frames = reverse (map level_of frames)

abbrev pub state_of : Reader → State
state_of reader = state (last_of reader.place) (level_of reader.frame) (levels_of reader.outer.items)

-- the state that is next, or that there is none
abbrev pub IsNext : Option State → Result Reader Refusal → Type 0
IsNext next (Ok reader) = next ≡ Some (state_of reader)
IsNext next (Err Bad) = next ≡ None
IsNext next (Err Deep) = ⊥
IsNext next (Err NoMemory) = Unit {0}

-- the name of the bytes, or that they are none
abbrev pub IsNamed : List ℕ → Result (List ℕ) Refusal → Type 0
IsNamed bytes (Ok name) = (name ≡ bytes) × (is_name bytes ≡ true)
IsNamed bytes (Err Bad) = is_name bytes ≡ false
IsNamed bytes (Err Deep) = ⊥
IsNamed bytes (Err NoMemory) = Unit {0}

-- so many are open that no more may be
abbrev pub is_full : List Level → Bool
is_full outer = nat_le 64 (length outer)

-- where a step must come: the state that is next, that there is none, or one parenthesis too many
abbrev pub IsBegun : Level → List Level → Mark → Result Reader Refusal → Type 0
IsBegun level outer m (Ok reader) = (begun level outer m ≡ Some (state_of reader)) × (m ≡ mark.Open → is_full outer ≡ false)
IsBegun level outer m (Err Bad) = begun level outer m ≡ None
IsBegun level outer m (Err Deep) = (m ≡ mark.Open) × (is_full outer ≡ true)
IsBegun level outer m (Err NoMemory) = Unit {0}

-- the state behind the byte, or why there is none
abbrev pub IsReadFrom : Last → Level → List Level → ℕ → Result Reader Refusal → Type 0
IsReadFrom Nothing level outer byte result = IsBegun level outer (mark_of byte) result
IsReadFrom last level outer byte result = IsNext (read_on last level outer byte) result

abbrev pub IsReadOn : State → ℕ → Result Reader Refusal → Type 0
IsReadOn s byte result = IsReadFrom s.last s.level s.outer byte result

-- the pattern that was read
abbrev pub IsFinished : State → Result Pattern Refusal → Type 0
IsFinished s (Ok pattern) = pattern_of s ≡ Some (shape_of pattern)
IsFinished s (Err Bad) = pattern_of s ≡ None
IsFinished s (Err Deep) = ⊥
IsFinished s (Err NoMemory) = Unit {0}

-- the fault of a text that is refused at the place
abbrev pub fault_of : Refusal → ℕ → PatternFault
fault_of Bad at = fault.Bad at
fault_of Deep at = fault.Long
fault_of NoMemory at = fault.NoMemory
