-- The records of an entry by which a version takes from a source.
use Rattle.std.specs.Prelude.{List, ◌∷◌}
use Rattle.pass_entry.specs.declared.objects.Node.{Node}
use Rattle.pass_entry.specs.declared.record.Record.{Record}
use Rattle.pass_entry.specs.declared.record.Record.TheVariants as log
use Rattle.pass_version.specs.declared.versions.Taken.{Taken}
use Rattle.pass_version.specs.declared.versions.Taken.TheVariants as taken

-- those of a version that has taken from a source, before others
abbrev pub taken_records : Taken → Node → Node → List Record → List Record
taken_records taken.Dropped node source rest = rest
taken_records taken.Linked node source rest = log.Input node source ∷ rest
taken_records taken.FrozenAndLinked node source rest = log.Version node ∷ log.Input node source ∷ rest
