-- The version of one object, as contracts see it.
use Rattle.std.specs.Prelude.{ℕ, List}
use Rattle.pass_entry.specs.declared.entry.Entry.{Entry}
use Rattle.pass_plain.specs.Sessions.{Session}
use Rattle.pass_plain.specs.Lineages.{Lineage, IsAlike, lineage_after}

-- the lineage of an object, and from how many more sources it may take
pub record VersionState : Type 0 where
  pub lineage : Lineage
  pub spare : ℕ

-- the state is the object's after the history: its version and mark, and as its ancestors the source nodes taken since the
-- last freeze
abbrev pub IsStateAfter : Session → List Entry → Lineage → Type 0
IsStateAfter session history lineage = IsAlike lineage (lineage_after session history lineage.node.pnode)
