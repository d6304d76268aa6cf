-- A file's number is its own for good.
use Rattle.std.specs.Prelude.{ℕ, ◌≡◌, ◌<◌, List, [], ◌∷◌, ◌++◌, Some, None}
use Rattle.pass_entry.specs.declared.objects.Kind.{Kind}
use Rattle.pass_entry.specs.declared.objects.Kind.TheVariants as kind
use Rattle.pass_registry.specs.Files.{number_of}
use Rattle.pass_registry.specs.Tables.{count_in}

-- a file keeps its number when more objects are made
abbrev pub KeepLaw : Type 0
KeepLaw = (objects more : List (ℕ × Kind)) (file number : ℕ) → number_of objects file ≡ Some number → number_of (objects ++ more) file ≡ Some number

-- a new file gets the next number
abbrev pub NextLaw : Type 0
NextLaw = (objects : List (ℕ × Kind)) (file : ℕ) → number_of objects file ≡ None
    → number_of (objects ++ (file, kind.File) ∷ []) file ≡ Some (count_in kind.File objects)

-- two files have different numbers
abbrev pub OwnLaw : Type 0
OwnLaw = (objects : List (ℕ × Kind)) (a b number : ℕ) → number_of objects a ≡ Some number → number_of objects b ≡ Some number → a ≡ b

-- a file's number is below the number of files
abbrev pub BelowLaw : Type 0
BelowLaw = (objects : List (ℕ × Kind)) (file number : ℕ) → number_of objects file ≡ Some number → number < count_in kind.File objects
