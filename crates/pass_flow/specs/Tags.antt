-- What a tag is made of.
use Rattle.std.specs.Prelude.{ℕ, List}

-- an attribute and its value
pub record TagView : Type 0 where
  pub attr : List ℕ
  pub value : List ℕ
