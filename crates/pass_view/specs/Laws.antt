-- Laws of tables: what a reader of CSV reads of one, and whom a key names.
use Rattle.std.specs.Prelude.{ℕ, ◌≡◌, ◌<◌, ◌^◌, List}
use Rattle.csv.specs.Reading.{AreRecords, default_config}
use Rattle.csv.specs.declared.parser.State.TheVariants.{StartRecord}
use Rattle.pass_entry.specs.declared.objects.Node.{Node}
use Rattle.pass_view.specs.Csvs.{node_key, table_rows, table_text}
use Rattle.pass_view.specs.declared.csvs.Table.{Table}
use Rattle.pass_view.specs.declared.picture.View.{View}

-- a reader of RFC 4180, as the crate `csv` defines it, reads exactly the rows of the table
abbrev pub ReadBack : Type 0
ReadBack = (table : Table) (store : List ℕ) (view : View) → AreRecords default_config StartRecord (table_text table store view) (table_rows table store view)

-- the numbers of a node have 64 bits
pub record IsNarrow (node : Node) : Type 0 where
  pub pnode : node.pnode < 2 ^ 64
  pub version : node.version < 2 ^ 64

-- one key is of one store and one node
abbrev pub AreApart : Type 0
AreApart = (s t : List ℕ) (a b : Node) → IsNarrow a → IsNarrow b → node_key s a ≡ node_key t b → (s ≡ t) × (a ≡ b)
