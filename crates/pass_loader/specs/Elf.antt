-- By what a program is loaded, after the ELF standard: files of 32 and of 64 bits, the least byte of each number first.
use Rattle.std.specs.Prelude.{ℕ, zero, suc, ◌+◌, ◌==◌, ◌||◌, ◌&&◌, Bool, nat_le, nat_eq, List, ◌∷◌, length, drop, take, slice_index_or, Option, Some, None, option_map, codes, if◌then◌else◌}
use Rattle.std.specs.List.{position, starts_with}
use Rattle.byteorder.specs.Endian.{little_number}
use Rattle.pass_loader.specs.declared.elf.Found.{Found}
use Rattle.pass_loader.specs.declared.elf.Found.TheVariants.{Named, Nothing, Unknown}

-- the path of a program, or the system alone; or that can't be seen in these bytes
pub data Loaded : Type 0 where
  named : List ℕ → Loaded
  nothing : Loaded
  unknown : Loaded

abbrev pub seen : Found → Loaded
seen (Named path) = named path.now
seen Nothing = nothing
seen Unknown = unknown

-- Numbers

-- what stands from a place on, where that has so many bytes
abbrev pub tail : ℕ → List ℕ → ℕ → Option (List ℕ)
tail n bytes at = if nat_le (at + n) (length bytes) then Some (drop at bytes) else None

-- the number of n bytes at a place
abbrev pub field : ℕ → List ℕ → ℕ → Option ℕ
field n bytes at = option_map (little_number n) (tail n bytes at)

-- an offset or a length has 4 bytes in a file of 32 bits, and 8 in one of 64
abbrev pub address : Bool → List ℕ → ℕ → Option ℕ
address wide bytes at = if wide then field 8 bytes at else field 4 bytes at

-- e_phoff, e_phentsize and e_phnum: where the program headers begin, how long each is, and how many there are
abbrev pub table_at : Bool → ℕ
table_at wide = if wide then 32 else 28

abbrev pub size_at : Bool → ℕ
size_at wide = if wide then 54 else 42

abbrev pub count_at : Bool → ℕ
count_at wide = if wide then 56 else 44

-- p_offset and p_filesz of a program header: where what it is of begins, and how long that is
abbrev pub offset_at : Bool → ℕ
offset_at wide = if wide then 8 else 4

abbrev pub length_at : Bool → ℕ
length_at wide = if wide then 32 else 16

-- Paths

-- a path ends before its first zero byte, and isn't empty
abbrev pub named_by : Option ℕ → List ℕ → Loaded
named_by None piece = unknown
named_by (Some end) piece = if end == 0 then unknown else named (take end piece)

abbrev pub name_in : List ℕ → Loaded
name_in piece = named_by (position (λ b. b == 0) piece) piece

abbrev pub name_front : ℕ → Option (List ℕ) → Loaded
name_front n None = unknown
name_front n (Some rest) = name_in (take n rest)

abbrev pub piece_at : List ℕ → Option ℕ → Option ℕ → Loaded
piece_at bytes None n = unknown
piece_at bytes (Some at) None = unknown
piece_at bytes (Some at) (Some n) = name_front n (tail n bytes at)

abbrev pub path_of : Bool → List ℕ → ℕ → Loaded
path_of wide bytes at = piece_at bytes (address wide bytes (at + offset_at wide)) (address wide bytes (at + length_at wide))

-- Program headers

-- a header of type PT_INTERP (3) has the path; else the next headers are looked at
abbrev pub by_type : Option ℕ → Loaded → Loaded → Loaded
by_type None path next = unknown
by_type (Some type) path next = if type == 3 then path else next

abbrev pub loader_in : Bool → List ℕ → ℕ → ℕ → ℕ → Loaded
loader_in wide bytes at size zero = nothing
loader_in wide bytes at size (suc count) = by_type (field 4 bytes at) (path_of wide bytes at) (loader_in wide bytes (at + size) size count)

abbrev pub by_table : Bool → List ℕ → Option ℕ → Option ℕ → Option ℕ → Loaded
by_table wide bytes None size count = unknown
by_table wide bytes (Some at) None count = unknown
by_table wide bytes (Some at) (Some size) None = unknown
by_table wide bytes (Some at) (Some size) (Some count) = loader_in wide bytes at size count

abbrev pub in_file : Bool → List ℕ → Loaded
in_file wide bytes = by_table wide bytes (address wide bytes (table_at wide)) (field 2 bytes (size_at wide)) (field 2 bytes (count_at wide))

-- Files

-- the marks of an ELF file
abbrev pub is_marked : List ℕ → Bool
is_marked bytes = starts_with nat_eq bytes (127 ∷ codes "ELF")

-- ELFCLASS32 (1) or ELFCLASS64 (2), and ELFDATA2LSB (1)
abbrev pub is_known : List ℕ → Bool
is_known bytes = ((slice_index_or bytes 4 0 == 1) || (slice_index_or bytes 4 0 == 2)) && (slice_index_or bytes 5 0 == 1)

abbrev pub is_wide : List ℕ → Bool
is_wide bytes = slice_index_or bytes 4 0 == 2

-- what is no ELF file has no loader, as a script
abbrev pub loaded : List ℕ → Loaded
loaded bytes =
    if is_marked bytes
    then (if is_known bytes then in_file (is_wide bytes) bytes else unknown)
    else nothing
