-- The numbers of the files of a store, by which their data stands on the disk.
use Rattle.std.specs.Prelude.{ℕ, ◌==◌, List, Option, position}
use Rattle.pass_entry.specs.declared.objects.Kind.{Kind}
-- the files in the order in which they were made
pub use Rattle.pass_book.specs.Numbers.{files_of}

-- files are numbered from 0 in that order; None where there is no such file
abbrev pub number_of : List (ℕ × Kind) → ℕ → Option ℕ
number_of objects file = position (λ pnode. pnode == file) (files_of objects)
