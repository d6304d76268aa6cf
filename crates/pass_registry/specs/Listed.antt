-- The records of the entries on a registry, by what it answers.
use Rattle.std.specs.Prelude.{ℕ, List, [], ◌∷◌, ◌++◌, Option, None, Result, Ok, Err, bytes_eq, if◌then◌else◌}
use Rattle.std.specs.Option.{option_map_or}
use Rattle.pass_entry.specs.declared.entry.CallFault.{CallFault}
use Rattle.pass_entry.specs.declared.objects.Kind.{Kind}
use Rattle.pass_entry.specs.declared.objects.Kind.TheVariants as kind
use Rattle.pass_entry.specs.declared.record.Record.{Record}
use Rattle.pass_entry.specs.declared.record.Record.TheVariants as log

-- a new object
abbrev pub mint_records : Result ℕ CallFault → Kind → List Record
mint_records (Ok pnode) k = log.Object pnode k ∷ []
mint_records (Err fault) k = []

-- a new file with its name
abbrev pub bind_records : Result ℕ CallFault → List ℕ → List Record
bind_records (Ok file) name = log.Object file kind.File ∷ log.Name file name ∷ []
bind_records (Err fault) name = []

-- a file that loses its name
abbrev pub unbind_records : Result ℕ CallFault → List Record
unbind_records (Ok file) = log.Name file [] ∷ []
unbind_records (Err fault) = []

-- the file that a renaming takes a name from
abbrev pub lost_by : Result (Option ℕ) CallFault → Option ℕ
lost_by (Ok lost) = lost
lost_by (Err fault) = None

-- a file that gets the name `to`, before which another one loses it; none where it has that name already
abbrev pub move_records : Result ℕ CallFault → Option ℕ → List ℕ → List ℕ → List Record
move_records (Ok file) lost from to =
    if bytes_eq from to then [] else option_map_or (λ other. log.Name other [] ∷ []) lost [] ++ log.Name file to ∷ []
move_records (Err fault) lost from to = []
