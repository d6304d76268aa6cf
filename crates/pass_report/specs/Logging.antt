-- How many records a history has, and their edges.
use Rattle.std.specs.Prelude.{ℕ, ◌+◌, ◌-◌, ◌*◌, ◌≤◌, ◌≡◌, Bool, List, [], ◌∷◌, ◌++◌, length, flat_map, is_some, bytes_eq, if◌then◌else◌}
use Rattle.std.specs.Option.{option_map_or}
use Rattle.pass_entry.specs.declared.entry.Entry.{Entry}
use Rattle.pass_entry.specs.declared.entry.Act.{Act}
use Rattle.pass_entry.specs.declared.entry.Act.TheVariants as act
use Rattle.pass_plain.specs.declared.start.Start.{Start}
use Rattle.pass_plain.specs.Sessions.{Session}
use Rattle.pass_plain.specs.Records.{records_of}
use Rattle.pass_report.specs.Reports.{Edge, ascending, edge_cmp, edges_of_record}
use Rattle.pass_report.specs.Contents.{AreFiles}
use Rattle.pass_report.specs.Names.{holds, AreNames}
use Rattle.pass_report.specs.declared.names.Names.{Names}
use Rattle.pass_plain.specs.declared.nodes.VersionStep.{VersionStep}
use Rattle.pass_report.specs.declared.logged.Logged.{Logged}

abbrev pub one_if : Bool → ℕ
one_if b = if b then 1 else 0

-- the records of a new version and of an input
abbrev pub version_count : VersionStep → ℕ
version_count turn = one_if turn.freezes + one_if (is_some turn.source)

abbrev pub args_count : List ℕ → ℕ
args_count [] = 0
args_count (b ∷ args) = 1

-- how many records an entry has beside those of a file's content
abbrev pub own_count : Names → VersionStep → Act → ℕ
own_count names turn (act.Bind name) = 2
own_count names turn (act.Mint k) = 1
own_count names turn (act.Unbind name) = 1
own_count names turn (act.Tag attr value) = 1
own_count names turn (act.Move from to) = if bytes_eq from to then 0 else 1 + one_if (holds names to)
own_count names turn (act.Exec out name args) = version_count turn + (1 + args_count args)
own_count names turn _ = version_count turn

-- the edges of an entry's records
abbrev pub turn_edges : VersionStep → List Edge
turn_edges turn =
    (if turn.freezes then (turn.node, record { pnode = turn.node.pnode; version = turn.node.version - 1 }) ∷ [] else [])
    ++ option_map_or (λ source. (turn.node, source) ∷ []) turn.source []

-- what is kept is of the records of the history
pub record IsLogged (start : Start) (session : Session) (history : List Entry) (l : Logged) : Type 0 where
  pub files : AreFiles start session history l.files
  pub names : AreNames session history l.names
  pub edges : l.edges.keys ≡ ascending edge_cmp (flat_map edges_of_record (records_of session history))
  pub count : l.records ≡ length (records_of session history)
  pub few : l.records ≤ 2048 * length history
