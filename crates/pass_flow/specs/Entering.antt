-- An object that has versions and is no process, as it lies under its lock: a file, a pipe or an app object.
use Rattle.std.specs.Prelude.{◌≡◌, ℕ, ◌-◌, ◌≤◌, ◌^◌, ◌||◌, Bool, List, [], ◌∷◌, ◌++◌, Option, length, if◌then◌else◌}
use Rattle.std.specs.Option.{option_map_or}
use Rattle.pass_entry.specs.declared.entry.Act.{Act}
use Rattle.pass_entry.specs.declared.entry.Act.TheVariants as act
use Rattle.pass_entry.specs.declared.entry.Entry.{Entry}
use Rattle.pass_entry.specs.declared.objects.Kind.TheVariants as kind
use Rattle.pass_entry.specs.declared.objects.Node.{Node}
use Rattle.pass_entry.specs.declared.record.Record.{Record}
use Rattle.pass_entry.specs.declared.record.Record.TheVariants as log
use Rattle.pass_plain.specs.Histories.{is_fault}
use Rattle.pass_plain.specs.Lineages.{Lineage, lineage_act, is_fresh_act, is_freeze_act}
use Rattle.pass_plain.specs.Lawful.{suits}
use Rattle.pass_plain.specs.Records.{content_records}
use Rattle.pass_plain.specs.Sessions.{Session}
use Rattle.pass_plain.specs.Versions.{node_in, nodes_of}
use Rattle.pass_version.specs.States.{VersionState, IsStateAfter}
use Rattle.pass_book.specs.Tokens.{BookId, DeskState}

-- the version, mark and ancestors of a desk's object are those of the definitions after what was seen of it
pub record IsVersioned (book : BookId) (d : DeskState) (v : VersionState) : Type 0 where
  pub of_book : d.book ≡ book
  pub node : v.lineage.node.pnode ≡ d.what
  pub lineage : IsStateAfter book.session d.seen v.lineage
  pub few : length d.seen ≤ 2 ^ 32

-- the act is one on a file, a pipe or an app object
abbrev pub is_object_act : Act → Bool
is_object_act a = suits a kind.File || suits a kind.Pipe

-- the node of an object by what was seen of it
abbrev pub current_node : Session → List Entry → ℕ → Node
current_node session seen what = node_in session (nodes_of session seen) what

-- what an entry makes of its object's lineage; `source` is the node from which it takes, if it takes
abbrev pub moved_by : Lineage → Option Node → Entry → Lineage
moved_by l source e = if is_fault e.reply then l else lineage_act l source e.act

-- and the records that this makes: a new version, and the edge from its source
abbrev pub version_records : Lineage → Option Node → Act → List Record
version_records l source a =
    (if is_freeze_act l source a then log.Version (lineage_act l source a).node ∷ [] else [])
    ++ (if is_fresh_act l source a then option_map_or (λ s. log.Input (lineage_act l source a).node s ∷ []) source [] else [])

abbrev pub moved_records : Lineage → Option Node → Entry → List Record
moved_records l source e = if is_fault e.reply then [] else version_records l source e.act

-- the records that an act makes behind those of its object's version
abbrev pub later_records : Session → List Entry → Entry → Act → List Record
later_records session seen e (act.Put out at bytes) = content_records session seen e
later_records session seen e (act.Cut out size) = content_records session seen e
later_records session seen e (act.Tag attr value) = log.Attr (current_node session seen e.what) attr value ∷ []
later_records session seen e _ = []

abbrev pub rest_records : Session → List Entry → Entry → List Record
rest_records session seen e = if is_fault e.reply then [] else later_records session seen e e.act

-- an entry that takes from a source uses one of the places that were reserved for sources
abbrev pub spare_after : Option Node → ℕ → ℕ
spare_after source spare = option_map_or (λ s. spare - 1) source spare
