-- The range table of a list of records, and the ranges that an area doesn't match (this project's own rule).
use Rattle.std.specs.Prelude.{◌≡◌, ◌≢◌, ℕ, ◌*◌, ◌==◌, Bool, false, ◌&&◌, nat_le, if◌then◌else◌, List, take, drop, Option, Some, None, filter_map}
use Rattle.std.specs.List.{after_last, last_or, position_from}
use Rattle.md5.specs.Md5.{md5}
use Rattle.pass_entry.specs.declared.objects.Kind.TheVariants as kind
use Rattle.pass_entry.specs.declared.record.Record.{Record}
use Rattle.pass_entry.specs.declared.record.Record.TheVariants as log
use Rattle.pass_plain.specs.Records.{block_size, range_len}
use Rattle.pass_plain.specs.Registries.{same_kind}
use Rattle.pass_plain.specs.WellLogged.{size_of}
use Rattle.pass_range.specs.Places.{place, found_there}

-- the bytes of a block in a file's content: its range
abbrev pub range : ℕ → List ℕ → List ℕ
range block content = take block_size (drop (block * block_size) content)

-- a record removes the row of a block: a size of its file at or past whose end the block begins
abbrev pub removes : ℕ → ℕ → Record → Bool
removes pnode block (log.Size file size) = file == pnode && nat_le size (block * block_size)
removes pnode block _ = false

-- the digest that a record gives a block
abbrev pub digest_in : ℕ → ℕ → Record → Option (List ℕ)
digest_in pnode block (log.Digest file one md5) = if file == pnode && one == block then Some md5 else None
digest_in pnode block _ = None

-- the row of a block in the table of a list: the last digest of it behind the last record that removes it
abbrev pub row_of : List Record → ℕ → ℕ → Option (List ℕ)
row_of list pnode block = last_or None (filter_map (digest_in pnode block) (after_last (removes pnode block) list))

-- the file that a record makes
abbrev pub file_made : Record → Option ℕ
file_made (log.Object pnode k) = if same_kind k kind.File then Some pnode else None
file_made _ = None

-- files are numbered from 0 in the order in which they were made
abbrev pub files_of : List Record → List ℕ
files_of list = filter_map file_made list

abbrev pub number_of : List Record → ℕ → Option ℕ
number_of list pnode = position_from (λ file. file == pnode) 0 (files_of list)

-- a block has a row, and what the store area has in its range, zero bytes past the end, has another MD5
pub record IsUnmatched (list : List Record) (store : List ℕ) (pnode block : ℕ) : Type 0 where
  pub number : ℕ
  pub numbered : number_of list pnode ≡ Some number
  pub digest : List ℕ
  pub row : row_of list pnode block ≡ Some digest
  pub differs : md5 (found_there (place number block) (range_len (size_of list pnode) block) store) ≢ digest
