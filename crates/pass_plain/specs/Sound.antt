-- Which starts a session may begin with. This project's own rule.
use Rattle.std.specs.Prelude.{ℕ, List, ◌+◌, ◌*◌, ◌==◌, ◌≡◌, ◌≤◌, ◌<◌, true, false, Some, IfSome, slice_get, length}
use Rattle.std.specs.List.{list_any}
use Rattle.pass_entry.specs.declared.objects.Kind.{Kind}
use Rattle.pass_entry.specs.declared.objects.Node.{Node}
use Rattle.pass_entry.specs.Texts.{is_name}
use Rattle.pass_entry.specs.Limits.{block_size, file_limit, kind_limit, number_limit}
use Rattle.pass_plain.specs.declared.start.StartFile.{StartFile}
use Rattle.pass_plain.specs.Sessions.{Session}
use Rattle.pass_plain.specs.Registries.{opening_registry}

-- an opened version is one that a record can have
abbrev pub IsVersion : ℕ → Type 0
IsVersion version = (1 ≤ version) × (version < number_limit)

-- a file as an opening gives it: its size is that of its bytes and within the limit, its rows ascend and begin below the size,
-- and what lies outside the blocks of its rows is zero
pub record IsSoundFile (file : StartFile) : Type 0 where
  pub version : IsVersion file.node.version
  pub named : IfSome file.name (λ name. is_name name ≡ true)
  pub sized : file.size ≡ length file.bytes.items
  pub limited : file.size ≤ file_limit
  pub ascending : (i j a b : ℕ) → slice_get file.rows.items i ≡ Some a → slice_get file.rows.items j ≡ Some b → i < j → a < b
  pub within : (i block : ℕ) → slice_get file.rows.items i ≡ Some block → block * block_size < file.size
  pub zero : (at block byte : ℕ) → slice_get file.bytes.items at ≡ Some byte → block * block_size ≤ at → at < (block + 1) * block_size
      → list_any (λ b. b == block) file.rows.items ≡ false → byte ≡ 0

-- the objects of the opening have numbers from 1 to the ceiling, each its own, files have names of their own,
-- and there is room for at least one new object
pub record IsSound (session : Session) : Type 0 where
  pub numbers : (i : ℕ) (o : ℕ × Kind) → slice_get (opening_registry session.start).objects i ≡ Some o → (1 ≤ o.0) × (o.0 ≤ session.start.ceiling)
  pub single : (i j : ℕ) (a b : ℕ × Kind) → slice_get (opening_registry session.start).objects i ≡ Some a
      → slice_get (opening_registry session.start).objects j ≡ Some b → a.0 ≡ b.0 → i ≡ j
  pub files : (i : ℕ) (file : StartFile) → slice_get session.start.files.items i ≡ Some file → IsSoundFile file
  pub apps : (i : ℕ) (app : Node) → slice_get session.start.apps.items i ≡ Some app → IsVersion app.version
  pub names : (i j : ℕ) (a b : StartFile) (name : List ℕ) → slice_get session.start.files.items i ≡ Some a
      → slice_get session.start.files.items j ≡ Some b → a.name ≡ Some name → b.name ≡ Some name → i ≡ j
  pub file_count : length session.start.files.items ≤ kind_limit
  pub app_count : length session.start.apps.items ≤ kind_limit
  pub some : 1 ≤ session.objects
  pub room : session.start.ceiling + session.objects < number_limit
