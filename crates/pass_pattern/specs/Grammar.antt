-- The texts of patterns.
use Rattle.std.specs.Prelude.{ℕ, ◌≡◌, ◌≤◌, ◌<◌, ◌+◌, ◌-◌, ◌==◌, ◌⊎◌, Bool, true, false, not, List, [], ◌∷◌, ◌++◌, length, take, Some, None, codes, Contains}
use Rattle.pass_entry.specs.Texts.{IsName}
use Rattle.pass_pattern.specs.declared.pattern.EdgeTest.{EdgeTest}
use Rattle.pass_pattern.specs.declared.pattern.EdgeTest.TheVariants.{Other, Same, Any}
use Rattle.pass_pattern.specs.declared.reader.Mark.{Mark}
use Rattle.pass_pattern.specs.declared.reader.Mark.TheVariants as mark
use Rattle.pass_pattern.specs.Marks.{mark_of}
use Rattle.pass_pattern.specs.Patterns.{Shape}
use Rattle.pass_pattern.specs.Patterns.Shape.{One, Then, Or, Many}

-- to another object, to the same one, to any
abbrev pub letter : EdgeTest → List ℕ
letter Other = codes "i"
letter Same = codes "v"
letter Any = codes "e"

-- how tightly a part of a pattern's text binds, the loosest first
pub data Binding : Type 0 where
  alt : Binding
  seq : Binding
  rep : Binding
  atom : Binding

-- a shape with its text: both joins lean to the left, and a name ends at the first closing brace
pub data IsText : Binding → Shape → List ℕ → Type 0 where
  plain : (edge : EdgeTest) → IsText atom (One edge None) (letter edge)
  named : (edge : EdgeTest) (name : List ℕ) → IsName name → ¬ (Contains name 125)
      → IsText atom (One edge (Some name)) (letter edge ++ codes "{" ++ name ++ codes "}")
  group : {p : Shape} {text : List ℕ} → IsText alt p text → IsText atom p (codes "(" ++ text ++ codes ")")
  once : {p : Shape} {text : List ℕ} → IsText atom p text → IsText rep p text
  star : {p : Shape} {text : List ℕ} → IsText atom p text → IsText rep (Many p) (text ++ codes "*")
  only : {p : Shape} {text : List ℕ} → IsText rep p text → IsText seq p text
  then_on : {p q : Shape} {text rest : List ℕ} → IsText seq p text → IsText rep q rest → IsText seq (Then p q) (text ++ codes "/" ++ rest)
  alone : {p : Shape} {text : List ℕ} → IsText seq p text → IsText alt p text
  or_else : {p q : Shape} {text rest : List ℕ} → IsText alt p text → IsText seq q rest → IsText alt (Or p q) (text ++ codes "|" ++ rest)

-- a text is that of one shape at most
abbrev pub OnePatternLaw : Type 0
OnePatternLaw = (p q : Shape) (text : List ℕ) → IsText alt p text → IsText alt q text → p ≡ q

-- some pattern has the text
pub record IsPattern (text : List ℕ) : Type 0 where
  pub shape : Shape
  pub is : IsText alt shape text

-- the text of some pattern begins so
pub record IsBeginning (text : List ℕ) : Type 0 where
  pub rest : List ℕ
  pub is : IsPattern (text ++ rest)

-- how many parentheses are open behind a mark
abbrev pub opened : Mark → ℕ → ℕ
opened mark.Open depth = depth + 1
opened mark.Close depth = depth - 1
opened _ depth = depth

abbrev pub is_brace : Mark → Bool
is_brace mark.Brace = true
is_brace _ = false

-- how many are open behind the text, from within a name or not; those in a name don't count
abbrev pub open_from : Bool → ℕ → List ℕ → ℕ
open_from within depth [] = depth
open_from true depth (byte ∷ rest) = open_from (not (byte == 125)) depth rest
open_from false depth (byte ∷ rest) = open_from (is_brace (mark_of byte)) (opened (mark_of byte) depth) rest

-- a beginning of the text, with which some pattern begins, leaves more than 64 parentheses open
pub record IsDeep (text : List ℕ) : Type 0 where
  pub size : ℕ
  pub begins : IsBeginning (take size text)
  pub deep : 64 < open_from false 0 (take size text)

abbrev pub IsLong : List ℕ → Type 0
IsLong text = (255 < length text) ⊎ IsDeep text

-- no pattern has the text, of which the longest beginning with which some pattern begins has this length
pub record IsBad (text : List ℕ) (at : ℕ) : Type 0 where
  pub short : ¬ (IsLong text)
  pub none : ¬ (IsPattern text)
  pub within : at ≤ length text
  pub begins : IsBeginning (take at text)
  pub longest : (size : ℕ) → at < size → size ≤ length text → ¬ (IsBeginning (take size text))
