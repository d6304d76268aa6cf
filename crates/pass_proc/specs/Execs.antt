-- The records of a program that a process runs.
use Rattle.std.specs.Prelude.{ℕ, List, ◌∷◌, codes}
use Rattle.pass_entry.specs.declared.objects.Node.{Node}
use Rattle.pass_entry.specs.declared.record.Record.{Record}
use Rattle.pass_entry.specs.declared.record.Record.TheVariants as log
use Rattle.pass_plain.specs.Records.{args_records}

-- what an exec has taken before its first entry: the name and the arguments of its program, and their records
pub record ExecView : Type 0 where
  pub name : List ℕ
  pub args : List ℕ
  pub records : List Record

-- the program's name, and its arguments where there are some, as attributes of the version that it begins
abbrev pub program_records : Node → List ℕ → List ℕ → List Record
program_records node name args = log.Attr node (codes "EXE") name ∷ args_records node args

abbrev pub exec_view : Node → List ℕ → List ℕ → ExecView
exec_view node name args = record { name = name; args = args; records = program_records node name args }
