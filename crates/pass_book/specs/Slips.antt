-- The records that a call brings beside an entry.
use Rattle.std.specs.Prelude.{List, [], ◌∷◌, ◌++◌, Option}
use Rattle.std.specs.Option.{option_map_or}
use Rattle.pass_entry.specs.declared.objects.Node.{Node}
use Rattle.pass_entry.specs.declared.record.Record.{Record}
use Rattle.pass_entry.specs.declared.record.Record.TheVariants as log

-- the object's new version if there is one, the edge from its source if there is one, given as target and source, and the others
abbrev pub slip_records : Option Node → Option (Node × Node) → List Record → List Record
slip_records version input others =
    option_map_or (λ n. log.Version n ∷ []) version [] ++ option_map_or (λ i. log.Input i.0 i.1 ∷ []) input [] ++ others
