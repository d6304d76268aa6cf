-- The records of a history entry by entry, and in parts.
use Rattle.std.specs.Prelude.{◌≡◌, ℕ, ◌+◌, ◌<◌, ◌≤◌, List, [], ◌∷◌, ◌++◌, All, length, take, drop, sum_by}
use Rattle.std.specs.List.{flat_map}
use Rattle.pass_entry.specs.Lengths.{record_length}
use Rattle.pass_entry.specs.declared.entry.Entry.{Entry}
use Rattle.pass_entry.specs.declared.record.Record.{Record}
use Rattle.pass_plain.specs.Sessions.{Session}
use Rattle.pass_plain.specs.Records.{entry_records, records_of}

-- the records of each of the entries that follow `past`
abbrev pub lists_after : Session → List Entry → List Entry → List (List Record)
lists_after session past [] = []
lists_after session past (e ∷ es) = entry_records session past e ∷ lists_after session (past ++ e ∷ []) es

abbrev pub entry_lists : Session → List Entry → List (List Record)
entry_lists session history = lists_after session [] history

abbrev pub joined : List (List Record) → List Record
joined parts = flat_map (λ p. p) parts

-- how many bytes records have in the log
abbrev pub byte_length : List Record → ℕ
byte_length records = sum_by record_length records

-- the greatest number of bytes of a part
abbrev pub part_bytes : ℕ
part_bytes = 1073741824

-- no two neighbours would fit into one part
abbrev pub IsCrowded : List (List Record) → Type 0
IsCrowded [] = Unit {0}
IsCrowded (p ∷ []) = Unit {0}
IsCrowded (p ∷ q ∷ ps) = (part_bytes < byte_length p + byte_length q) × IsCrowded (q ∷ ps)

abbrev pub IsPart : List Record → Type 0
IsPart records = (0 < length records) × (byte_length records ≤ part_bytes)

-- the parts are the records of the entries from a place on, and each of them ends where an entry does
pub record AreParts (session : Session) (history : List Entry) (from : ℕ) (parts : List (List Record)) : Type 0 where
  pub all : records_of session history ≡ records_of session (take from history) ++ joined parts
  pub whole : (k : ℕ) → k ≤ length parts → (n : ℕ) × (n ≤ length (drop from history)) × (records_of session (take (from + n) history) ≡ records_of session (take from history) ++ joined (take k parts))
  pub each : All IsPart parts
  pub crowded : IsCrowded parts
