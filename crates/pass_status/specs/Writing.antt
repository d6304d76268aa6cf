-- What a sink took of a text. This project's own rule.
use Rattle.std.specs.Prelude.{ℕ, ◌≡◌, List, ◌++◌}

-- a sink that had taken `old` took a beginning of the text
pub record IsPartOfText (text old new : List ℕ) : Type 0 where
  pub wrote : List ℕ
  pub rest : List ℕ
  pub parts : text ≡ wrote ++ rest
  pub taken : new ≡ old ++ wrote
