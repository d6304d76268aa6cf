-- What of a start is known before the bytes of its files are read. This project's own rule.
use Rattle.std.specs.Prelude.{ℕ, ◌≡◌, List, Option, map}
use Rattle.pass_entry.specs.declared.objects.Node.{Node}
use Rattle.pass_plain.specs.declared.start.Start.{Start}
use Rattle.pass_plain.specs.declared.start.StartFile.{StartFile}

-- what of an opened file isn't its bytes
abbrev pub outline : StartFile → Node × Option (List ℕ) × ℕ × List ℕ
outline f = (f.node, f.name, f.size, f.rows.items)

-- the two starts differ at most in the bytes of their files
pub record SameButBytes (a b : Start) : Type 0 where
  pub ceiling : a.ceiling ≡ b.ceiling
  pub files : map outline a.files.items ≡ map outline b.files.items
  pub apps : a.apps.items ≡ b.apps.items
