-- Which nodes a pattern joins.
use Rattle.std.specs.Prelude.{ℕ, ◌≡◌, ◌+◌, ◌==◌, Bool, true, not, List, Option, Some, None, Contains}
use Rattle.pass_entry.specs.declared.objects.Node.{Node}
use Rattle.pass_entry.specs.declared.record.Record.{Record}
use Rattle.pass_entry.specs.declared.record.Record.TheVariants as log
use Rattle.pass_plain.specs.Graphs.{IsEdge}
use Rattle.pass_pattern.specs.declared.pattern.EdgeTest.{EdgeTest}
use Rattle.pass_pattern.specs.declared.pattern.EdgeTest.TheVariants.{Other, Same, Any}
use Rattle.pass_pattern.specs.declared.pattern.Pattern.{Pattern}
use Rattle.pass_pattern.specs.declared.pattern.Pattern.TheVariants as tree

-- the shape of a path, which a pattern has wherever its parts lie in memory
pub data Shape : Type 0 where
  One : EdgeTest → Option (List ℕ) → Shape
  Then : Shape → Shape → Shape
  Or : Shape → Shape → Shape
  Many : Shape → Shape

abbrev pub shape_of : Pattern → Shape
shape_of (tree.One edge name) = One edge name
shape_of (tree.Then' p first q second) = Then (shape_of first) (shape_of second)
shape_of (tree.Or' p one q other) = Or (shape_of one) (shape_of other)
shape_of (tree.Many' p inner) = Many (shape_of inner)

-- how many edges a shape speaks of
abbrev pub atoms : Shape → ℕ
atoms (One edge name) = 1
atoms (Then first second) = atoms first + atoms second
atoms (Or one other) = atoms one + atoms other
atoms (Many inner) = atoms inner

-- an edge between these nodes passes the test
abbrev pub passes : EdgeTest → Node → Node → Bool
passes Other a b = not (a.pnode == b.pnode)
passes Same a b = a.pnode == b.pnode
passes Any a b = true

-- a record gave the object the name, where there is one
abbrev pub HadName : List Record → Option (List ℕ) → ℕ → Type 0
HadName list None object = Unit {0}
HadName list (Some name) object = Contains list (log.Name object name)

-- an edge that passes the test, to a node whose object had the name
pub record IsStep (list : List Record) (edge : EdgeTest) (name : Option (List ℕ)) (a b : Node) : Type 0 where
  pub leads : IsEdge list a b
  pub passed : passes edge a b ≡ true
  pub named : HadName list name b.pnode

-- a path of the shape leads from the one node to the other
pub data Joins (list : List Record) : Shape → Node → Node → Type 0 where
  one : {edge : EdgeTest} {name : Option (List ℕ)} {a b : Node} → IsStep list edge name a b → Joins list (One edge name) a b
  both : {p q : Shape} {a b c : Node} → Joins list p a b → Joins list q b c → Joins list (Then p q) a c
  first : {p q : Shape} {a b : Node} → Joins list p a b → Joins list (Or p q) a b
  second : {p q : Shape} {a b : Node} → Joins list q a b → Joins list (Or p q) a b
  none_of : {p : Shape} {a : Node} → Joins list (Many p) a a
  more_of : {p : Shape} {a b c : Node} → Joins list p a b → Joins list (Many p) b c → Joins list (Many p) a c
