-- What a program is asked of itself. This project's own rule.
use Rattle.std.specs.Prelude.{ℕ, List, [], ◌∷◌, Option, Some, None, codes, bytes_eq, if◌then◌else◌}
use Rattle.pass_help.specs.declared.Request.{Request}
use Rattle.pass_help.specs.declared.Request.TheVariants.{Help, Version}

abbrev pub asked_by : List ℕ → Option Request
asked_by word = if bytes_eq word (codes "--help") then Some Help else if bytes_eq word (codes "--version") then Some Version else None

-- one word, which asks for it
abbrev pub asked_in : List (List ℕ) → Option Request
asked_in (word ∷ []) = asked_by word
asked_in _ = None
